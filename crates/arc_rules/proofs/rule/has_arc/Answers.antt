use Rattle.std.proofs.Common.{◌∙◌}
use Rattle.oid.proofs.Arcs.{limit_width}
use Rattle.arc_rules.proofs.Theorems.{lowest_is_itself}
use Rattle.arc_rules.proofs.rule.has_arc.Goals as goal

pub returns : goal.returns
returns g c =
    c.eq.ensures
    ∙ lowest_is_itself (g.R.ArcRule.means c.args.rule.now).set c.args.arc _ (limit_width _ c.ranges.arc.fits) c.lowest_from.ensures.answers
