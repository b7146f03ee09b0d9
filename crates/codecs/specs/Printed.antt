-- An identifier described in words, as programs print it.
use Rattle.std.specs.Prelude.{ℕ, List, ◌++◌, length, codes, decimal, Some, None, Option}
use Rattle.oid.specs.Tree.{parent_of}
use Rattle.dotted.specs.Writing.{dotted_text}

-- the text of a parent, or that there is none
abbrev pub parent_text : Option (List ℕ) → List ℕ
parent_text (Some arcs) = dotted_text arcs
parent_text None = codes "none"

-- the text of some arcs, how many they are, and their parent
abbrev pub described : List ℕ → List ℕ
described arcs = dotted_text arcs ++ (codes " arcs " ++ (decimal (length arcs) ++ (codes " parent " ++ parent_text (parent_of arcs))))
