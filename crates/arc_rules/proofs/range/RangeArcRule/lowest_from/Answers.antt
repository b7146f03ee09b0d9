use Rattle.oid.proofs.Arcs.{limit_width}
use Rattle.arc_rules.proofs.Ranges.{lowest_in_range}
use Rattle.arc_rules.proofs.range.RangeArcRule.lowest_from.Goals as goal

pub returns-then-lowest-self : goal.returns-then-lowest-self
returns-then-lowest-self c = record {
  answers = lowest_in_range c.args.self.now.first _ _ _ c.max-lowest.ensures c.if-lowest-self.true (limit_width _ c.max-lowest.type_inv);
}
