use Rattle.der.proofs.Theorems.{fewest_bytes}
use Rattle.der.proofs.laws.fewest_bytes.Goals as goal

pub returns : goal.returns
returns c = fewest_bytes
