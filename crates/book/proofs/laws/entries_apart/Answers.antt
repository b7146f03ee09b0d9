-- By the theorem.
use Rattle.book.proofs.Theorems.{entries_apart}
use Rattle.book.proofs.laws.entries_apart.Goals as goal

pub returns : goal.returns
returns c = entries_apart
