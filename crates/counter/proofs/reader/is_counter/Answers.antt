use Rattle.std.proofs.Common.{codes}
use Rattle.std.proofs.lemmas.Slice.Eq.{starts_is}
use Rattle.std.proofs.lemmas.Bool.Decides.{Decides-eqb}
use Rattle.oid.proofs.Tree.{begins_is}
use Rattle.counter.proofs.reader.is_counter.Goals as goal

pub returns : goal.returns
returns c = begins_is c.args.line.now (codes "@") _ (starts_is Decides-eqb c.args.line.now (codes "@") _ c.starts_with.ensures.value)
