-- By the theorem.
use Rattle.book.proofs.Theorems.{good_foundings}
use Rattle.book.proofs.laws.good_foundings.Goals as goal

pub returns : goal.returns
returns c = good_foundings
