use Rattle.request.proofs.Fitting.{lines_fit}
use Rattle.request.proofs.laws.lines_fit.Goals as goal

pub returns : goal.returns
returns c = lines_fit
