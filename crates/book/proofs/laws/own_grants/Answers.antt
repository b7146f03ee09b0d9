-- By the theorem.
use Rattle.book.proofs.OwnGrants.{own_grants}
use Rattle.book.proofs.laws.own_grants.Goals as goal

pub returns : goal.returns
returns c = own_grants
