-- By the theorem.
use Rattle.book.proofs.Passing.{all_pass}
use Rattle.book.proofs.laws.all_pass.Goals as goal

pub returns : goal.returns
returns c = all_pass
