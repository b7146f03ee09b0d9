use Rattle.std.proofs.Common.{◌≡◌, ◌+◌, ◌-◌, ◌%◌, ◌<◌, ◌++◌, [], max, length, drop, sym, ap, ◌∙◌, Some, arith}
use Rattle.std.proofs.lemmas.Bool.{cond-true, le-leb}
use Rattle.std.proofs.lemmas.Int.Digits.{length-digits_of_step}
use Rattle.std.proofs.lemmas.List.{length-set, nil_from_length}
use Rattle.std.specs.Int.Digits.{digits_of}
use Rattle.digits.specs.Digits.{digits_in}
use Rattle.digits.proofs.Steps.{length_more, page_last, page_step, some_left}
use Rattle.digits.proofs.write_digits.Goals as goal

pub loop-place-init : goal.loop-place-init
loop-place-init g c =
    let base = c.base_of-base.result in
    let n = c.args.number in
    let long = ap (λ b. length (digits_in b n)) c.base_of-base.ensures.value in
    let all : c.digit_count-count.result - 1 + 1 ≡ length (digits_in base n) = omega (arith, c.digit_count-count.ensures.value, c.digit_count-count.ensures.some, long) in
    record {
      left = omega (arith, all, length_more base n);
      page = page_last base n (c.digit_count-count.result - 1) c.args.page.now all (omega (arith, all, long));
    }

pub loop-place-preserved : goal.loop-place-preserved
loop-place-preserved g c =
    let base = c.base_of-base.result in
    let rest = c.loop-place.rest in
    let at = c.loop-place.place - 1 in
    let back : at + 1 ≡ c.loop-place.place = omega (arith, c.loop-place-test.true) in
    let some = some_left base rest c.loop-place.place c.loop-place.invariant.left c.loop-place-test.true in
    let inside : at < length c.loop-place.page = omega (arith, c.loop-place-test.true, c.loop-place.auto.page, c.loop-place.auto.place, length-set c.args.page.now (c.digit_count-count.result - 1) (c.args.number % base)) in
    record {
      left = omega (arith, c.loop-place.invariant.left, length-digits_of_step base rest c.base_of-base.ensures.some some, c.loop-place-test.true);
      page = page_step base rest at c.loop-place.page c.base_of-base.ensures.some some inside ∙ ap (λ k. digits_of base rest ++ drop k c.loop-place.page) back ∙ c.loop-place.invariant.page;
    }

pub returns : goal.returns
returns g c =
    let base = c.base_of-base.result in
    let n = c.args.number in
    let page = c.loop-place.page in
    let digits = digits_in (max g.row.BASE 2) n in
    let fits = le-leb (length digits) (length c.args.page.now) (omega (arith, c.digit_count-count.ensures.value)) in
    let first : c.loop-place.place ≡ 0 = omega (arith, c.loop-place-test.false) in
    let none : digits_of base c.loop-place.rest ≡ [] = nil_from_length (digits_of base c.loop-place.rest) (sym c.loop-place.invariant.left ∙ first) in
    let start : digits_of base c.loop-place.rest ++ drop c.loop-place.place page ≡ page = λ k. none k ++ drop (first k) page in
    record {
      value = ap Some c.digit_count-count.ensures.value ∙ sym (cond-true _ _ _ fits);
      after =
          sym start ∙ c.loop-place.invariant.page
          ∙ ap (λ b. digits_in b n ++ drop (length (digits_in b n)) c.args.page.now) c.base_of-base.ensures.value
          ∙ sym (cond-true _ _ _ fits);
    }
