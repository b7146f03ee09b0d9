use Rattle.request.proofs.Walking.{done}
use Rattle.request.proofs.part.Parts.is_done.Goals as goal

pub returns : goal.returns
returns c = done c.args.self.now.line.now c.args.self.now.place
