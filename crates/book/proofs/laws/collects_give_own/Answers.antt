-- By the theorem.
use Rattle.book.proofs.GrantRows.{collects_give_own}
use Rattle.book.proofs.laws.collects_give_own.Goals as goal

pub returns : goal.returns
returns c = collects_give_own
