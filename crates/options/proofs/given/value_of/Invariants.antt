use Rattle.std.proofs.Common.{◌≡◌, map, length}
use Rattle.options.specs.Options.{value_of}
use Rattle.options.proofs.given.value_of.Given as goal

-- the value that is given in what is left is given in all
abbrev pub invariant-loop-left : goal.invariant-loop-left
invariant-loop-left g l = value_of l.option (map g.S.AsStr.text l.left) ≡ value_of l.option (map g.S.AsStr.text l.arguments)

abbrev pub decreases-loop-left : goal.decreases-loop-left
decreases-loop-left g l = length l.left
