use Rattle.std.proofs.Common.{length, take}
use Rattle.oid.specs.Collected.{Collected}
use Rattle.dotted.specs.Numerals.{numbers_left}
use Rattle.dotted.proofs.pieces.collect_numbers.Given as goal

-- as many of the numbers were collected as were yielded
abbrev pub invariant-loop-numeral : goal.invariant-loop-numeral
invariant-loop-numeral l = Collected l.collector (take (length l.yielded) (numbers_left l.start l.text))
