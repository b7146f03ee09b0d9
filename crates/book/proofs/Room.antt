-- A book that has room for an entry wherever an open authority has 1 left: the question about too many entries then never refuses.
use Rattle.std.proofs.Common.{◌≡◌, ℕ, ◌<◌, ◌≤◌, true, List, [], ◌∷◌, length, Some}
use Rattle.book.specs.Kinds.{is_open}
use Rattle.book.specs.Book.{Entry, Book, most_entries, found}
use Rattle.book.specs.Left.{left}
use Rattle.book.specs.Runs.{Exchange}

pub record HasRoom (book : Book) : Type 0 where
  pub room : (o : List ℕ) (authority : Entry) → found o book ≡ Some authority → is_open authority.kind ≡ true
      → 1 ≤ left authority book → length book < most_entries

-- every book of a run has
abbrev pub RoomAlong : Book → List Exchange → Type 0
RoomAlong book [] = HasRoom book
RoomAlong book (exchange ∷ run) = HasRoom book × RoomAlong exchange.book run
