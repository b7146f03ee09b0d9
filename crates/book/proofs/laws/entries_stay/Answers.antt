-- By the theorem.
use Rattle.book.proofs.Staying.{entries_stay}
use Rattle.book.proofs.laws.entries_stay.Goals as goal

pub returns : goal.returns
returns c = entries_stay
