use Rattle.request.proofs.Worked.{worked_lines}
use Rattle.request.proofs.laws.worked_lines.Goals as goal

pub returns : goal.returns
returns c = worked_lines
