-- By the theorem.
use Rattle.book.proofs.Empty.{refused_foundings}
use Rattle.book.proofs.laws.refused_foundings.Goals as goal

pub returns : goal.returns
returns c = refused_foundings
