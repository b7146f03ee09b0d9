-- By the theorem.
use Rattle.book.proofs.Edging.{edge_answers}
use Rattle.book.proofs.laws.edge_answers.Goals as goal

pub returns : goal.returns
returns c = edge_answers
