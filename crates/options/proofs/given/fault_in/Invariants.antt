use Rattle.std.proofs.Common.{◌≡◌, ◌-◌, ◌≤◌, map, length}
use Rattle.options.specs.Options.{fault_from, arguments_of}
use Rattle.options.proofs.given.fault_in.Given as goal

-- the first fault of what is left is that of all
abbrev pub invariant-loop-left : goal.invariant-loop-left
invariant-loop-left g l = record {
  within : length l.left ≤ length l.words;
  same : fault_from (length l.words - length l.left) (map g.S.AsStr.text l.left) ≡ fault_from 1 (arguments_of (map g.S.AsStr.text l.words));
}

abbrev pub decreases-loop-left : goal.decreases-loop-left
decreases-loop-left g l = length l.left
