use Rattle.std.proofs.Common.{rules, nat_lt}
use Rattle.std.proofs.lemmas.List.Sorted.{answers_always}
use Rattle.arc_rules.proofs.Listing.{adjacent}
use Rattle.arc_rules.proofs.listed.making.ascending.Goals as goal

pub returns : goal.returns
returns c = adjacent c.args.arcs.now c.is_sorted_by.result (c.is_sorted_by.ensures.cases nat_lt (answers_always _ _ _ (λ f a r f2 k. search rules)))
