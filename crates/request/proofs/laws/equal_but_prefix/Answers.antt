use Rattle.request.proofs.Unprefixed.{equal_but_prefix}
use Rattle.request.proofs.laws.equal_but_prefix.Goals as goal

pub returns : goal.returns
returns c = equal_but_prefix
