use Rattle.std.proofs.Common.{Some, sym, refl, ap, ◌∙◌}
use Rattle.std.proofs.lemmas.Bool.{cond-true}
use Rattle.oid.proofs.Places.{owed, take_laid}
use Rattle.oid.proofs.Tree.{keeps}
use Rattle.oid.proofs.identifier.Identifier.from_arcs.Goals as goal

pub filled_up-requires : goal.filled_up-requires
filled_up-requires c = (keeps c.args.arcs.now (sym c.if-not-keeps_rule.ensures)).short

pub invariant_of-result : goal.invariant_of-result
invariant_of-result c =
    let facts = owed _ c.args.arcs.now _ (refl, c.filled_up.ensures) (keeps c.args.arcs.now (sym c.if-not-keeps_rule.ensures)) in
    record { places = facts.places; within = facts.within; rule = facts.rule; rest = facts.rest }

pub returns : goal.returns
returns c =
    ap Some (take_laid _ c.args.arcs.now _ (refl, c.filled_up.ensures))
    ∙ sym (cond-true _ _ _ (sym c.if-not-keeps_rule.ensures))
