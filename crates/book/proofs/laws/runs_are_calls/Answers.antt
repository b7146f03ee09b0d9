-- By the theorem.
use Rattle.book.proofs.Serving.{runs_are_calls}
use Rattle.book.proofs.laws.runs_are_calls.Goals as goal

pub returns : goal.returns
returns c = runs_are_calls
