use Rattle.sticker.proofs.Given.{given_back}
use Rattle.sticker.proofs.laws.given_back.Goals as goal

pub returns : goal.returns
returns c = given_back
