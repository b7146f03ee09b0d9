use Rattle.std.proofs.Common.{◌≡◌, ◌++◌, take, drop}
use Rattle.input.specs.Hex.{pairs_in}
use Rattle.input.proofs.hex.read_pairs.Given as goal

abbrev pub invariant-loop-place : goal.invariant-loop-place
invariant-loop-place l = l.page ≡ take l.place (pairs_in l.digits) ++ drop l.place l.initial.page
