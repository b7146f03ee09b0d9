-- By the theorem.
use Rattle.book.proofs.Theorems.{panels_holders}
use Rattle.book.proofs.laws.panels_holders.Goals as goal

pub returns : goal.returns
returns c = panels_holders
