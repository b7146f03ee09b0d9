-- By the theorem.
use Rattle.book.proofs.Serving.{some_lines}
use Rattle.book.proofs.laws.some_lines.Goals as goal

pub returns : goal.returns
returns c = some_lines
