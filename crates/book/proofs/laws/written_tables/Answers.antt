-- By the theorem.
use Rattle.book.proofs.Tabling.{written_tables}
use Rattle.book.proofs.laws.written_tables.Goals as goal

pub returns : goal.returns
returns c = written_tables
