-- By the theorem.
use Rattle.book.proofs.Rolling.{rolls_in_order}
use Rattle.book.proofs.laws.rolls_in_order.Goals as goal

pub returns : goal.returns
returns c = rolls_in_order
