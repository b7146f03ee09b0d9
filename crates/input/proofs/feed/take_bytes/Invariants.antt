use Rattle.std.proofs.Common.{ℕ, List, take}
use Rattle.input.specs.Lines.{Took, underway, ended}
use Rattle.input.proofs.feed.take_bytes.Given as goal

-- what the input so far ends was taken, and the line has the rest of it
abbrev pub invariant-loop-byte : goal.invariant-loop-byte
invariant-loop-byte g l = record {
  rest : (bytes : List ℕ) → Took l.initial.line bytes → Took l.line (underway bytes (take l.byte-index l.input));
  lines : (bytes : List ℕ) → Took l.initial.line bytes → g.T.LineTaker.taken l.initial.taker (ended bytes (take l.byte-index l.input)) l.taker;
}
