use Rattle.request.proofs.Rolled.{rolls_are_lines}
use Rattle.request.proofs.laws.rolls_are_lines.Goals as goal

pub returns : goal.returns
returns c = rolls_are_lines
