use Rattle.request.proofs.Children.{child_lines_apart}
use Rattle.request.proofs.laws.child_lines_apart.Goals as goal

pub returns : goal.returns
returns c = child_lines_apart
