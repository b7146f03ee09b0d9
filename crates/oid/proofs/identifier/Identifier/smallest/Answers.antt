use Rattle.std.proofs.Common.{[], ◌∷◌, refl}
use Rattle.oid.proofs.Places.{owed}
use Rattle.oid.proofs.Tree.{keeps_smallest}
use Rattle.oid.proofs.identifier.Identifier.smallest.Goals as goal

pub invariant_of-result : goal.invariant_of-result
invariant_of-result c =
    let facts = owed _ (0 ∷ 0 ∷ []) 2 (refl, refl) keeps_smallest in
    record { places = facts.places; within = facts.within; rule = facts.rule; rest = facts.rest }
