-- What the comparison of two identifiers computes, and that it tells them apart.
use Rattle.std.specs.Prelude.{◌≡◌, Bool, Decides, ◌==◌}
use Rattle.std.specs.Cmp.Lexicographic.{pointwise}
use Rattle.std.specs.Ordering.{on}
use Rattle.oid.specs.Meaning.{arcs_of}
use Rattle.oid.specs.declared.identifier.Identifier.{Identifier}

-- whether two identifiers have the same arcs, in order
abbrev pub same_arcs : Identifier → Identifier → Bool
same_arcs = on arcs_of (pointwise ◌==◌)

-- this decides whether the two are equal, and whether their arcs are
abbrev pub EqualityDecides : Type 0
EqualityDecides = (a b : Identifier) → Decides (same_arcs a b) (a ≡ b) × Decides (same_arcs a b) (arcs_of a ≡ arcs_of b)
