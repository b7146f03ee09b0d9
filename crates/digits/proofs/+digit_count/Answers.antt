use Rattle.std.proofs.Common.{◌/◌, length, ap, arith}
use Rattle.digits.specs.Digits.{digits_in}
use Rattle.digits.proofs.Steps.{length_step, length_most}
use Rattle.digits.proofs.+digit_count.Goals as goal

pub returns-clause-most : goal.returns-clause-most
returns-clause-most g t c =
    let base = c.base_of-base.result in
    let n = c.args.number in
    let is = c.base_of-base.ensures.value in
    omega (arith, c.digit_count.ensures.value, ap (λ b. length (digits_in b (n / base))) is, length_step base n c.base_of-base.ensures.some c.if-number-base.false, length_most base n c.base_of-base.ensures.some (omega arith))
