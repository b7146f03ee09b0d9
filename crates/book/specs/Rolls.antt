-- What a roll lists of an authority's children, by what is true of it.
use Rattle.std.specs.Prelude.{ℕ, ◌<◌, ◌≤◌, ◌≡◌, List, find, All, AllPairs, Contains, Some, ◌==◌}
use Rattle.book.specs.Book.{Entry, Book, children, arc_of_child}
use Rattle.book.specs.Calls.{roll}
use Rattle.book.specs.Rulings.{listed}
use Rattle.book.specs.Questions.{Rules, answer}

-- What is true of a list of children in the order of their arcs, from one arc upwards.
pub record InOrder (siblings : List Entry) (from : ℕ) (shown : List Entry) : Type 0 where
  -- what is listed is a child, and its arc is not below the one asked for
  pub are_children : All (λ entry. Contains siblings entry × (from ≤ arc_of_child entry)) shown
  -- each arc is below those after it, so none is listed twice
  pub ascending : AllPairs (λ entry later. arc_of_child entry < arc_of_child later) shown
  -- of each such arc that a child has, the first child with it is listed
  pub all_arcs : (child : Entry) → Contains siblings child → from ≤ arc_of_child child
      → (first : Entry) × (find (λ other. arc_of_child other == arc_of_child child) siblings ≡ Some first) × Contains shown first

-- What a roll of O is answered with is O, and such a list of its children.
abbrev pub RollsInOrder : Type 0
RollsInOrder = (rules : Rules) (book : Book) (holder : ℕ) (o : List ℕ) (from : ℕ) (identifier : List ℕ) (shown : List Entry)
    → answer rules book (roll holder o from) ≡ listed identifier shown
    → (identifier ≡ o) × InOrder (children o book) from shown
