-- By the theorem.
use Rattle.book.proofs.GrantRows.{own_grants_stay}
use Rattle.book.proofs.laws.own_grants_stay.Goals as goal

pub returns : goal.returns
returns c = own_grants_stay
