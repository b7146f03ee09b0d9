use Rattle.request.proofs.Rolls.{rolls_fit}
use Rattle.request.proofs.laws.rolls_fit.Goals as goal

pub returns : goal.returns
returns c = rolls_fit
