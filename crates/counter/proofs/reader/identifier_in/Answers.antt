use Rattle.std.proofs.Common.{arith}
use Rattle.request.specs.Parts.{part_of}
use Rattle.request.proofs.Asking.{fault_placed}
use Rattle.counter.proofs.reader.identifier_in.Goals as goal

pub overflow_add-part : goal.overflow_add-part
overflow_add-part c = omega (arith, fault_placed (part_of c.args.part) c.in-Err.fault c.requires c.in-Err.ensures.value)
