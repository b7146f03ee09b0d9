use Rattle.std.proofs.Common.{◌≡◌, ◌++◌, length, drop}
use Rattle.std.specs.Int.Digits.{digits_of}
use Rattle.digits.specs.Digits.{digits_in}
use Rattle.digits.proofs.write_digits.Given as goal

-- what is still to be written, put before what stands behind it, gives the page that is wanted
abbrev pub invariant-loop-place : goal.invariant-loop-place
invariant-loop-place g l = record {
  left : l.place ≡ length (digits_of l.base l.rest);
  page : digits_of l.base l.rest ++ drop l.place l.page ≡ digits_in l.base l.number ++ drop (length (digits_in l.base l.number)) l.fn.page;
}
