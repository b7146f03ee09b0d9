-- The comparison of arcs decides equality.
use Rattle.std.proofs.Common.{refl, ap}
use Rattle.std.proofs.lemmas.Bool.Decides.{Decides-eqb}
use Rattle.std.proofs.lemmas.Slice.Eq.{slice_eq-Decides}
use Rattle.oid.specs.Equality.{same_arcs, EqualityDecides}
use Rattle.oid.specs.Meaning.{arcs_of}
use Rattle.oid.proofs.Places.{same_from_arcs}

pub equality_decides : EqualityDecides
equality_decides a b =
    let d = slice_eq-Decides Decides-eqb (arcs_of a) (arcs_of b) (same_arcs a b) refl in
    ((λ t. same_from_arcs a b (d.0 t), λ e. d.1 (ap arcs_of e)), (d.0, d.1))
