-- For the contracts of private functions: how the code asks the book's questions, one after the other.
use Rattle.std.specs.Prelude.{ℕ, ◌≡◌, true, Ok, Err, Some, List, Result, is_some, position, slice_get}
use Rattle.book.specs.Book.{Entry, Book, is_at, found}
use Rattle.book.specs.Kinds.{next_kind}
use Rattle.book.specs.Rulings.{Answer, refused, Ruling, refuses, there_is}
use Rattle.book.specs.declared.event.Event.{Event}
use Rattle.book.specs.declared.kind.Kind.{Kind}
use Rattle.book.specs.declared.refusal.Refusal.{Refusal}
use Rattle.book.specs.declared.refusal.Refusal.TheVariants.{NotInBook, WrongKind}
use Rattle.register.specs.Kept.{entry_of}
use Rattle.register.specs.declared.row.Row.{Row}
use Rattle.register.specs.declared.standing.Standing.{Standing}

-- Some questions are answered: with the entry in a row, which those that follow are about; or with a refusal, and then none follows.
abbrev pub with_row : Result Row Refusal → (Entry → Ruling) → Ruling
with_row (Ok row) others = others (entry_of row)
with_row (Err refusal) others = refuses refusal

-- An entry stands in its book: it is in the first row with the identifier, and its kind is one that the event changes.
pub record StandsFirst (book : Book) (t : List ℕ) (event : Event) (standing : Standing) : Type 0 where
  pub first : position (is_at t) book ≡ Some standing.number
  pub row : slice_get book standing.number ≡ Some (entry_of standing.row)
  pub changes : is_some (next_kind standing.row.kind event) ≡ true

-- 14 and 15, put to an entry that a call names, come to a refusal, whatever is asked after them.
abbrev pub Refuses : Book → List ℕ → Event → Refusal → Type 0
Refuses book t event refusal = (others : Entry → Kind → Ruling)
    → there_is NotInBook (found t book) (λ entry. there_is WrongKind (next_kind entry.kind event) (others entry)) ≡ refuses refusal

-- what a call is answered that changes the kind of an entry, by the entry as it was
abbrev pub answer_turned : (Entry → Answer) → Result Standing Refusal → Answer
answer_turned answer (Ok standing) = answer (entry_of standing.row)
answer_turned answer (Err refusal) = refused refusal
