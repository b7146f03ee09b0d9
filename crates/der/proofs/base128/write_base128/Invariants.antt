use Rattle.digits.proofs.Marked.{Begun}
use Rattle.der.proofs.Digits.{marked}
use Rattle.der.proofs.base128.write_base128.Given as goal

-- as many digits as were gone over have 80 added
abbrev pub invariant-loop-at : goal.invariant-loop-at
invariant-loop-at l = Begun marked l.initial.page l.at l.page
