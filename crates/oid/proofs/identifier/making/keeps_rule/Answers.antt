use Rattle.std.proofs.Common.{arith}
use Rattle.std.proofs.lemmas.Bool.Decides.{nat_tests}
use Rattle.oid.specs.Tree.{is_identifier}
use Rattle.oid.proofs.identifier.making.keeps_rule.Goals as goal

pub returns-then-starts_well : goal.returns-then-starts_well
unfolding is_identifier
returns-then-starts_well c = grind (arith, nat_tests)

pub returns-else-starts_well : goal.returns-else-starts_well
unfolding is_identifier
returns-else-starts_well c = grind (arith, nat_tests)
