use Rattle.std.proofs.Common.{◌≡◌, ◌+◌, ◌*◌, ◌/◌, ◌++◌, [], Some, true, false, length, get_or, take, drop, refl, sym, ap, ◌∙◌, arith}
use Rattle.std.proofs.lemmas.Bool.{cond-true, cond-false, le-leb, lt-leb}
use Rattle.std.proofs.lemmas.List.{take_all}
use Rattle.input.specs.Hex.{hex_value, pairs_in, pairs_fit}
use Rattle.input.proofs.Digits.{length_pairs, pair_at, front_more}
use Rattle.input.proofs.hex.read_pairs.Goals as goal
use Rattle.input.proofs.hex.read_pairs.Goals.{Then-pairs-page, After-loop-place}

-- the page has no room
short : (c : Then-pairs-page) → pairs_fit c.args.digits.now c.args.page.now ≡ false
short c = lt-leb (length (pairs_in c.args.digits.now)) (length c.args.page.now) (omega (arith, length_pairs c.args.digits.now))

pub returns-then-pairs-page-clause-value : goal.returns-then-pairs-page-clause-value
returns-then-pairs-page-clause-value c = sym (cond-false _ _ _ (short c))

pub returns-then-pairs-page-clause-after : goal.returns-then-pairs-page-clause-after
returns-then-pairs-page-clause-after c = sym (cond-false _ _ _ (short c))

pub loop-place-preserved : goal.loop-place-preserved
loop-place-preserved c =
    let digits = c.args.digits.now in
    let i = c.loop-place.place in
    let long = length_pairs digits in
    let value : 16 * c.value_of.result + c.value_of-in-loop-place.result ≡ get_or (pairs_in digits) i 0 =
    (λ k. 16 * c.value_of.ensures.value k + c.value_of-in-loop-place.ensures.value k)
    ∙ ap (λ pairs. 16 * hex_value (get_or (get_or pairs i []) 0 0) + hex_value (get_or (get_or pairs i []) 1 0)) c.as_chunks.ensures.front
    ∙ sym (pair_at digits (length digits / 2) i refl (omega arith)) in
    front_more (pairs_in digits) c.args.page.now c.loop-place.page i _ (omega arith) (omega arith) c.loop-place.invariant value

-- the page has room
fit : (c : After-loop-place) → pairs_fit c.args.digits.now c.args.page.now ≡ true
fit c = le-leb _ _ (omega (arith, length_pairs c.args.digits.now))

pub returns-clause-value : goal.returns-clause-value
returns-clause-value c =
    let long : length c.as_chunks.result.0.now ≡ length (pairs_in c.args.digits.now) = omega (arith, length_pairs c.args.digits.now) in
    ap Some long ∙ sym (cond-true _ _ _ (fit c))

pub returns-clause-after : goal.returns-clause-after
returns-clause-after c =
    let bytes = pairs_in c.args.digits.now in
    let page = c.args.page.now in
    let end : c.loop-place.place ≡ length bytes = omega (arith, length_pairs c.args.digits.now) in
    c.loop-place.invariant
    ∙ (λ k. take (end k) bytes ++ drop (end k) page)
    ∙ ap (λ l. l ++ drop (length bytes) page) (take_all (length bytes) bytes (omega arith))
    ∙ sym (cond-true _ _ _ (fit c))
