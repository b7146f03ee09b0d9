-- By the theorem.
use Rattle.book.proofs.Worked.{worked_example}
use Rattle.book.proofs.laws.worked_example.Goals as goal

pub returns : goal.returns
returns c = worked_example
