use Rattle.std.proofs.Common.{sym, ◌∙◌}
use Rattle.oid.specs.Meaning.{arcs_of}
use Rattle.oid.proofs.Family.{parent_is}
use Rattle.oid.proofs.identifier.Identifier.parent.Goals as goal

pub returns : goal.returns
returns c =
    let i = c.args.self.now in
    c.from_arcs.ensures
    ∙ parent_is (arcs_of i) c.in_ok-front.front.now _ i.rule (sym c.arcs.ensures.value ∙ c.in_ok-front.ensures.cases.0)
