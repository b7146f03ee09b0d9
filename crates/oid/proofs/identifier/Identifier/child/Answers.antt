use Rattle.std.proofs.Common.{ap, ◌∙◌, arith}
use Rattle.std.proofs.lemmas.List.{take_more_set}
use Rattle.oid.specs.Meaning.{arcs_of}
use Rattle.oid.specs.Tree.{identified}
use Rattle.oid.proofs.Family.{child_is}
use Rattle.oid.proofs.Places.{len_is}
use Rattle.oid.proofs.identifier.Identifier.child.Goals as goal

pub returns : goal.returns
returns c =
    let i = c.args.self.now in
    c.from_arcs.ensures
    ∙ ap identified (take_more_set i.arcs i.len c.args.arc (omega (arith, i.places)))
    ∙ child_is (arcs_of i) c.args.arc i.rule (omega (arith, len_is i))
