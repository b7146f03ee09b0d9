use Rattle.der.proofs.Theorems.{one_encoding}
use Rattle.der.proofs.laws.one_encoding_for_each.Goals as goal

pub returns : goal.returns
returns c = one_encoding
