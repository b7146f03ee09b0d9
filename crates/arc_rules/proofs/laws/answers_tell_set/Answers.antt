use Rattle.arc_rules.proofs.Theorems.{answers_tell_set}
use Rattle.arc_rules.proofs.laws.answers_tell_set.Goals as goal

pub returns : goal.returns
returns c = answers_tell_set
