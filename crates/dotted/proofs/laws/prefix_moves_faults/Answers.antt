use Rattle.dotted.proofs.Theorems.{prefix_moves_faults}
use Rattle.dotted.proofs.laws.prefix_moves_faults.Goals as goal

pub returns : goal.returns
returns c = prefix_moves_faults
