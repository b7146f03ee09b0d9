use Rattle.std.proofs.Common.{◌≡◌, ◌+◌, ◌++◌, ◌≤◌}
use Rattle.std.specs.Vec.{vec_len, vec_capacity}
use Rattle.std.specs.Vec.Iter.{into_iter_items, into_iter_len}
use Rattle.book.specs.Law.{at_founding}
use Rattle.register.specs.Registers.{founding_of, serial_of, refusal_of}
use Rattle.runs.specs.Desks.{register_of, book_at, rules_at}
use Rattle.runs.proofs.Progress.{SoFar}
use Rattle.runs.proofs.replaying.replay.Given as goal

-- the calls taken so far are sent, and room is left for what comes back of the others
abbrev pub invariant-loop-call : goal.invariant-loop-call
invariant-loop-call g l = record {
  so_far : SoFar (at_founding (founding_of g.P.ArcRule.means g.A.ArcRule.means l.fn.founding)) (rules_at g.P.ArcRule.means g.A.ArcRule.means l.desk)
      (book_at l.desk) l.yielded l.said.items;
  left : l.yielded ++ into_iter_items l.call-iterator ≡ l.fn.calls.items;
  room : vec_len l.said + into_iter_len l.call-iterator ≤ vec_capacity l.said;
  serial : serial_of (register_of l.desk) ≡ l.fn.founding.serial;
  refusal : refusal_of (register_of l.desk) ≡ refusal_of (register_of l.initial.desk);
}
