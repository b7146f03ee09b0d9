use Rattle.std.proofs.Common.{◌≡◌, ℕ, ◌+◌, ◌/◌, ◌%◌, ◌≤◌, List, ◌++◌, [], ◌∷◌, Option, Some, map, length, get_or, drop, sym, ap, ◌∙◌, append_assoc, subst, arith}
use Rattle.std.proofs.Math.ListN.{get_or-append}
use Rattle.std.specs.Int.Digits.{digits_of}
use Rattle.std.proofs.lemmas.List.{length_push}
use Rattle.digits.specs.Digits.{digits_in, digits_written, page_after}
use Rattle.digits.proofs.Marked.{Begun, next_digit, digit_more, digits_end}
use Rattle.digits.proofs.Steps.{all_written, digit_below}
use Rattle.der.specs.Base128.{base128}
use Rattle.der.proofs.Digits.{marked, base128_is, digits_split, length_digits}
use Rattle.der.proofs.base128.write_base128.Goals as goal

-- the digits before the last, what follows them in the page, and how many there are
record Wrote (n : ℕ) (before page : List ℕ) (count : ℕ) : Type 0 where
  is : page ≡ digits_of 128 (n / 128) ++ ((n % 128 ∷ []) ++ drop (length (digits_in 128 n)) before)
  many : count ≡ length (digits_of 128 (n / 128)) + 1
  all : count ≡ length (digits_in 128 n)

wrote : (n : ℕ) (before page : List ℕ) (result : Option ℕ) (count : ℕ) → length (base128 n) ≤ length before → result ≡ digits_written (digits_in 128 n) before
    → page ≡ page_after (digits_in 128 n) before → result ≡ Some count → Wrote n before page count
wrote n before page result count room told after some =
    let w = all_written (digits_in 128 n) before page result count (omega (arith, length_digits n)) told after some in
    let rest = drop (length (digits_in 128 n)) before in
    record {
      is = w.1 ∙ ap (λ l. l ++ rest) (digits_split n) ∙ append_assoc (digits_of 128 (n / 128)) (n % 128 ∷ []) rest;
      many = w.0 ∙ ap length (digits_split n) ∙ length_push (digits_of 128 (n / 128)) (n % 128);
      all = w.0;
    }

pub overflow_add-page : goal.overflow_add-page
overflow_add-page c =
    let n = c.args.number in
    let before = c.args.page.now in
    let w = wrote n before c.write_digits.new.page c.write_digits.result c.in-Some.count c.requires c.write_digits.ensures.value c.write_digits.ensures.after c.in-Some.is in
    let i = c.loop-at.at in
    let digits = digits_of 128 (n / 128) in
    let rest = (n % 128 ∷ []) ++ drop (length (digits_in 128 n)) before in
    let here = next_digit marked digits rest c.loop-at.page i (omega (arith, w.many)) (subst (λ all. Begun marked all i c.loop-at.page) w.is c.loop-at.invariant) in
    let same = ap (λ l. get_or l i 0) (digits_split n) ∙ get_or-append digits (n % 128 ∷ []) 0 i (omega (arith, w.many)) in
    omega (arith, here, same, digit_below 128 n i (omega arith))

pub loop-at-preserved : goal.loop-at-preserved
loop-at-preserved c =
    let w = wrote c.args.number c.args.page.now c.write_digits.new.page c.write_digits.result c.in-Some.count c.requires c.write_digits.ensures.value c.write_digits.ensures.after c.in-Some.is in
    digit_more marked c.write_digits.new.page c.loop-at.page c.loop-at.at _ (omega (arith, w.all, length_digits c.args.number, c.requires)) c.loop-at.invariant (omega arith)

pub returns : goal.returns
returns c =
    let n = c.args.number in
    let before = c.args.page.now in
    let w = wrote n before c.write_digits.new.page c.write_digits.result c.in-Some.count c.requires c.write_digits.ensures.value c.write_digits.ensures.after c.in-Some.is in
    let i = c.loop-at.at in
    let digits = digits_of 128 (n / 128) in
    let rest = drop (length (digits_in 128 n)) before in
    let end : i ≡ length digits = omega (arith, w.many) in
    let page = digits_end marked digits ((n % 128 ∷ []) ++ rest) c.loop-at.page i end (subst (λ all. Begun marked all i c.loop-at.page) w.is c.loop-at.invariant) in
    record {
      value = w.all ∙ length_digits n;
      after =
          page ∙ sym (append_assoc (map marked digits) (n % 128 ∷ []) rest)
          ∙ (λ k. sym (base128_is n) k ++ drop (length_digits n k) before);
    }
