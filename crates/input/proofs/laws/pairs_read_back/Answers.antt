use Rattle.input.proofs.Printed.{pairs_read_back}
use Rattle.input.proofs.laws.pairs_read_back.Goals as goal

pub returns : goal.returns
returns c = pairs_read_back
