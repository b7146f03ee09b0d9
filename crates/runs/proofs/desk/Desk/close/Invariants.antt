use Rattle.std.proofs.Common.{length}
use Rattle.register.specs.Registers.{book_of, rules_of, serial_of, KeepsRest}
use Rattle.runs.specs.Out.{held_in}
use Rattle.runs.proofs.Declining.{Declines}
use Rattle.runs.proofs.desk.Desk.close.Given as goal

-- declines led here from the first book, and those still held are the Grants that are out
abbrev pub invariant-loop-last : goal.invariant-loop-last
invariant-loop-last g l =
    let first = l.initial.register in
    record {
      declines : Declines (rules_of g.P.ArcRule.means g.A.ArcRule.means first) (serial_of first) (book_of first) (book_of l.register) (held_in l.held.items);
      rest : KeepsRest first l.register;
    }

abbrev pub decreases-loop-last : goal.decreases-loop-last
decreases-loop-last g l = length l.held.items
