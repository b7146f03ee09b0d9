use Rattle.request.proofs.ReadBack.{identifiers_read_back}
use Rattle.request.proofs.laws.identifiers_read_back.Goals as goal

pub returns : goal.returns
returns c = identifiers_read_back
