use Rattle.digits.proofs.Marked.{Begun}
use Rattle.dotted.proofs.Digits.{written}
use Rattle.dotted.proofs.decimal.write_number.Given as goal

-- as many digits as were gone over are written
abbrev pub invariant-loop-place : goal.invariant-loop-place
invariant-loop-place l = Begun written l.initial.page l.place l.page
