-- Children in the order of their arcs. What is true of such a list, Rolls says.
use Rattle.std.specs.Prelude.{ℕ, cond, List, [], ◌∷◌, filter, slice_get, nat_le, nat_lt, ◌==◌, Option}
use Rattle.book.specs.Book.{Entry, arc_of_child}

-- a child put among children in ascending order; of two with one arc, it takes the place of the other
abbrev pub put : Entry → List Entry → List Entry
put child [] = child ∷ []
put child (next ∷ others) =
    cond (nat_lt (arc_of_child child) (arc_of_child next)) (child ∷ next ∷ others)
    (cond (arc_of_child child == arc_of_child next) (child ∷ others) (next ∷ put child others))

-- children in ascending order of their arcs; of several with one arc the first
unfoldable pub in_order : List Entry → List Entry
in_order [] = []
in_order (child ∷ others) = put child (in_order others)

-- those with arcs from one upwards
abbrev pub from_arc : ℕ → List Entry → List Entry
from_arc arc children = filter (λ child. nat_le arc (arc_of_child child)) children

-- the next child from an arc upwards, in that order
abbrev pub next_child : ℕ → List Entry → Option Entry
next_child arc children = slice_get (from_arc arc (in_order children)) 0
