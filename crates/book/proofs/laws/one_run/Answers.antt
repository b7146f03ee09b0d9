-- By the theorem.
use Rattle.book.proofs.Serving.{one_run}
use Rattle.book.proofs.laws.one_run.Goals as goal

pub returns : goal.returns
returns c = one_run
