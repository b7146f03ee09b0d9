use Rattle.codecs.proofs.Examples.{worked_examples}
use Rattle.codecs.proofs.laws.worked_examples.Goals as goal

pub returns : goal.returns
returns c = worked_examples
