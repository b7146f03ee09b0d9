use Rattle.request.proofs.ReadBack.{lines_recover}
use Rattle.request.proofs.laws.lines_recover.Goals as goal

pub returns : goal.returns
returns c = lines_recover
