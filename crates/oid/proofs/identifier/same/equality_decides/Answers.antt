use Rattle.oid.proofs.Equality.{equality_decides}
use Rattle.oid.proofs.identifier.same.equality_decides.Goals as goal

pub returns : goal.returns
returns c = equality_decides
