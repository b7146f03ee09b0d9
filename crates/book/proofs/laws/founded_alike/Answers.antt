-- By the theorem.
use Rattle.book.proofs.Theorems.{founded_alike}
use Rattle.book.proofs.laws.founded_alike.Goals as goal

pub returns : goal.returns
returns c = founded_alike
