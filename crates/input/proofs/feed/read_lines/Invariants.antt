use Rattle.std.proofs.Common.{◌≡◌, length}
use Rattle.input.proofs.Feeding.{Fed}
use Rattle.input.proofs.feed.read_lines.Given as goal

abbrev pub invariant-loop : goal.invariant-loop
invariant-loop g l =
    Fed g.T.LineTaker.taken (g.R.Read.remaining l.initial.input) l.initial.taker (g.R.Read.remaining l.input) l.taker l.line × (length l.chunk ≡ 4096)
