use Rattle.dotted.proofs.Theorems.{one_text}
use Rattle.dotted.proofs.laws.one_text_for_each.Goals as goal

pub returns : goal.returns
returns c = one_text
