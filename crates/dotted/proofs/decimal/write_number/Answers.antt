use Rattle.std.proofs.Common.{◌++◌, length, drop, ◌∙◌, subst, arith}
use Rattle.digits.specs.Digits.{digits_in}
use Rattle.digits.proofs.Marked.{Begun, next_digit, digit_more, digits_end}
use Rattle.digits.proofs.Steps.{all_written, digit_below}
use Rattle.dotted.proofs.Digits.{written, decimal_digits, length_digits}
use Rattle.dotted.proofs.decimal.write_number.Goals as goal

pub overflow_add-page : goal.overflow_add-page
overflow_add-page c =
    let digits = digits_in 10 c.args.number in
    let before = c.args.page.now in
    let wrote = all_written digits before c.write_digits.new.page c.write_digits.result c.in-Some.count (omega (arith, length_digits c.args.number (omega arith))) c.write_digits.ensures.value c.write_digits.ensures.after c.in-Some.is in
    let i = c.loop-place.place in
    let here = next_digit written digits (drop (length digits) before) c.loop-place.page i (omega (arith, wrote.0)) (subst (λ all. Begun written all i c.loop-place.page) wrote.1 c.loop-place.invariant) in
    omega (arith, here, digit_below 10 c.args.number i (omega arith))

pub loop-place-preserved : goal.loop-place-preserved
loop-place-preserved c =
    let digits = digits_in 10 c.args.number in
    let long = length_digits c.args.number (omega arith) in
    let wrote = all_written digits c.args.page.now c.write_digits.new.page c.write_digits.result c.in-Some.count (omega (arith, long)) c.write_digits.ensures.value c.write_digits.ensures.after c.in-Some.is in
    digit_more written c.write_digits.new.page c.loop-place.page c.loop-place.place _ (omega (arith, wrote.0, long)) c.loop-place.invariant (omega arith)

pub returns : goal.returns
returns c =
    let digits = digits_in 10 c.args.number in
    let before = c.args.page.now in
    let rest = drop (length digits) before in
    let long = length_digits c.args.number (omega arith) in
    let wrote = all_written digits before c.write_digits.new.page c.write_digits.result c.in-Some.count (omega (arith, long)) c.write_digits.ensures.value c.write_digits.ensures.after c.in-Some.is in
    let i = c.loop-place.place in
    let all = digits_end written digits rest c.loop-place.page i (omega (arith, wrote.0)) (subst (λ all. Begun written all i c.loop-place.page) wrote.1 c.loop-place.invariant) in
    record {
      value = wrote.0 ∙ long;
      after = all ∙ (λ k. decimal_digits c.args.number (omega arith) k ++ drop (long k) before);
    }
