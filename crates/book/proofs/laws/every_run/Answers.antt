-- By the theorem.
use Rattle.book.proofs.Theorems.{every_run}
use Rattle.book.proofs.laws.every_run.Goals as goal

pub returns : goal.returns
returns c = every_run
