use Rattle.counter.proofs.Exact.{read_exactly}
use Rattle.counter.proofs.laws.read_exactly.Goals as goal

pub returns : goal.returns
returns c = read_exactly
