-- The book: entries, how one is found, and which are whose children.
use Rattle.std.specs.Prelude.{ℕ, ◌-◌, ◌≡◌, Bool, List, length, filter, find, slice_index, Some, Option, ◌==◌}
use Rattle.std.specs.Cmp.Lexicographic.{pointwise}
use Rattle.std.specs.List.{list_any}
use Rattle.std.specs.Option.{option_eq, option_and_then}
use Rattle.oid.specs.Tree.{parent_of}
use Rattle.book.specs.declared.kind.Kind.{Kind}

-- An entry: its identifier, as the list of its arcs; its kind; its holder; and, of an authority, its quota. What is no authority has 0.
pub record Entry : Type 0 where
  pub identifier : List ℕ
  pub kind : Kind
  pub holder : ℕ
  pub quota : ℕ

-- the entries, the oldest first
abbrev pub Book : Type 0
Book = List Entry

-- the most entries that a book has
abbrev pub most_entries : ℕ
most_entries = 512

-- two lists of arcs are the same identifier
abbrev pub same : List ℕ → List ℕ → Bool
same = pointwise ◌==◌

abbrev pub is_at : List ℕ → Entry → Bool
is_at identifier entry = same entry.identifier identifier

-- the entry of an identifier; none where it does not stand in the book
unfoldable pub found : List ℕ → Book → Option Entry
found identifier book = find (is_at identifier) book

-- the entry of an identifier's parent; none where there is no parent, or it does not stand in the book
abbrev pub parent_in : List ℕ → Book → Option Entry
parent_in identifier book = option_and_then (λ parent. found parent book) (parent_of identifier)

-- two books have the same entries where each identifier finds the same in both
abbrev pub SameEntries : Book → Book → Type 0
SameEntries one other = (identifier : List ℕ) → found identifier one ≡ found identifier other

-- an entry is the child of the authority that is its parent
abbrev pub is_child : List ℕ → Entry → Bool
is_child parent entry = option_eq same (parent_of entry.identifier) (Some parent)

unfoldable pub children : List ℕ → Book → List Entry
children parent book = filter (is_child parent) book

-- the arc that a child has below its parent, the last of its arcs
abbrev pub arc_of_child : Entry → ℕ
arc_of_child child = slice_index child.identifier (length child.identifier - 1)

-- some child has the arc, whatever its kind is
unfoldable pub is_taken : ℕ → List Entry → Bool
is_taken arc children = list_any (λ child. arc_of_child child == arc) children
