use Rattle.std.proofs.Common.{sym, ap, ◌∙◌}
use Rattle.std.specs.Option.{option_map}
use Rattle.std.proofs.lemmas.Option.{none-some, same_Some}
use Rattle.oid.specs.Meaning.{arcs_of}
use Rattle.register.proofs.Below.{child_is}
use Rattle.register.proofs.register.giving.below.Goals as goal

pub unreachable-requires : goal.unreachable-requires
unreachable-requires c =
    none-some _ (sym (ap (option_map arcs_of) c.in_default.is) ∙ child_is _ c.args.arc c.child.result c.requires c.ranges.arc.fits c.child.ensures)

pub returns : goal.returns
returns c =
    same_Some _ _ (sym (ap (option_map arcs_of) c.in-Some.is) ∙ child_is _ c.args.arc c.child.result c.requires c.ranges.arc.fits c.child.ensures)
