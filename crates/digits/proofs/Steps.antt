-- How the digits of a number follow from those of the number without its last.
use Rattle.std.proofs.Common.{◌≡◌, ℕ, zero, suc, ◌+◌, ◌*◌, ◌/◌, ◌%◌, ◌^◌, ◌<◌, ◌≤◌, List, [], ◌∷◌, ◌++◌, length, get_or, drop, set, sym, ap, ⊎_elim, ◌∙◌, append_assoc, Some, Option, unwrap_or, arith}
use Rattle.std.proofs.Math.Nat.{div-eq_of_lt, mod-eq_of_lt, mod-lt, mul-le-mul_left, pow-le-pow_left}
use Rattle.std.proofs.lemmas.Bool.{cases_lt, cond-true, le-leb}
use Rattle.std.proofs.lemmas.Grind.{pow_more}
use Rattle.std.proofs.lemmas.Int.Digits.{digits_of_step, length-digits_of-le, all_below_base_digits_of}
use Rattle.std.proofs.lemmas.List.{length_push, drop-set}
use Rattle.std.proofs.lemmas.Nat.{div_below, le-div}
use Rattle.std.specs.Int.Digits.{digits_of, AllBelowBase}
use Rattle.digits.specs.Digits.{digits_in, digits_written, page_after}

-- a number below the base is one digit
pub one_digit : (base n : ℕ) → n < base → digits_in base n ≡ n ∷ []
unfolding digits_in
one_digit base n h =
    ap (λ higher. digits_of base higher ++ (n % base ∷ [])) (div-eq_of_lt h) ∙ ap (λ digit. digit ∷ []) (mod-eq_of_lt h)

-- another has one digit more than what is left without its last
pub digits_step : (base n : ℕ) → 2 ≤ base → base ≤ n → digits_in base n ≡ digits_in base (n / base) ++ (n % base ∷ [])
unfolding digits_in
digits_step base n two h =
    ap (λ digits. digits ++ (n % base ∷ [])) (digits_of_step base (n / base) two (le-div 1 n base (omega arith) (omega arith)))

-- no number of 64 bits has more than 64 digits
pub length_most : (base n : ℕ) → 2 ≤ base → n < 2 ^ 64 → length (digits_in base n) ≤ 64
unfolding digits_in
length_most base n two fits =
    let higher = length-digits_of-le base 63 (n / base) two (div_below n base (base ^ 63) (omega arith) (below base n two fits)) in
    omega (arith, length_push (digits_of base (n / base)) (n % base), higher)
  where
    below : (base n : ℕ) → 2 ≤ base → n < 2 ^ 64 → n < base ^ 63 * base
    below base n two fits = omega (arith, pow-le-pow_left two 64, pow_more base 63)

pub length_step : (base n : ℕ) → 2 ≤ base → base ≤ n → length (digits_in base n) ≡ length (digits_in base (n / base)) + 1
length_step base n two h = ap length (digits_step base n two h) ∙ length_push (digits_in base (n / base)) (n % base)

-- the digit before those that stand in a page goes down, and the others are still to be written
page_more : (digits page : List ℕ) (at digit : ℕ) → at < length page → digits ++ drop at (set page at digit) ≡ (digits ++ (digit ∷ [])) ++ drop (at + 1) page
page_more digits page at digit inside = ap (λ l. digits ++ l) (drop-set page at digit inside) ∙ sym (append_assoc digits (digit ∷ []) (drop (at + 1) page))

-- first the last digit
pub page_last : (base n at : ℕ) (page : List ℕ) → at + 1 ≡ length (digits_in base n) → at < length page
    → digits_of base (n / base) ++ drop at (set page at (n % base)) ≡ digits_in base n ++ drop (length (digits_in base n)) page
unfolding digits_in
page_last base n at page long inside =
    page_more (digits_of base (n / base)) page at (n % base) inside ∙ ap (λ k. (digits_of base (n / base) ++ (n % base ∷ [])) ++ drop k page) long

-- then each of those before it
pub page_step : (base n at : ℕ) (page : List ℕ) → 2 ≤ base → 0 < n → at < length page
    → digits_of base (n / base) ++ drop at (set page at (n % base)) ≡ digits_of base n ++ drop (at + 1) page
page_step base n at page two some inside =
    page_more (digits_of base (n / base)) page at (n % base) inside ∙ ap (λ digits. digits ++ drop (at + 1) page) (sym (digits_of_step base n two some))

-- a number that has digits before the last is not 0
pub some_left : (base n count : ℕ) → count ≡ length (digits_of base n) → 0 < count → 0 < n
some_left base n count is some = ⊎_elim (λ h. h) (λ none. absurd (nothing none)) (cases_lt 0 n)
  where
    nothing : n ≤ 0 → ⊥
    nothing none = let zero : n ≡ 0 = omega (arith, none) in omega (arith, is, some, ap (λ m. length (digits_of base m)) zero)

-- one digit, and those of the number without it
pub length_more : (base n : ℕ) → length (digits_in base n) ≡ length (digits_of base (n / base)) + 1
unfolding digits_in
length_more base n = length_push (digits_of base (n / base)) (n % base)

-- every digit is below the base
pub digit_below : (base n i : ℕ) → 2 ≤ base → get_or (digits_in base n) i 0 < base
unfolding digits_in
digit_below base n i two = below_at base (digits_of base (n / base)) (n % base) i (omega arith) (all_below_base_digits_of base (n / base) two) (mod-lt n (omega arith))
  where
    below_at : (base : ℕ) (digits : List ℕ) (last i : ℕ) → 0 < base → AllBelowBase base digits → last < base
        → get_or (digits ++ (last ∷ [])) i 0 < base
    below_at base [] last zero some all h = h
    below_at base [] last (suc i) some all h = some
    below_at base (digit ∷ digits) last zero some all h = all.0
    below_at base (digit ∷ digits) last (suc i) some all h = below_at base digits last i some all.1 h

-- a number without its last digit is smaller
pub without_last : (base n : ℕ) → 2 ≤ base → base ≤ n → n / base < n
without_last base n two h = div_below n base n (omega arith) (omega (arith, mul-le-mul_left n two))

-- where a page has room, all digits are written, and then what followed them
pub all_written : (digits page after : List ℕ) (result : Option ℕ) (count : ℕ) → length digits ≤ length page → result ≡ digits_written digits page
    → after ≡ page_after digits page → result ≡ Some count → (count ≡ length digits) × (after ≡ digits ++ drop (length digits) page)
all_written digits page after result count room told is some =
    let fits = le-leb (length digits) (length page) room in
    let length_is : Some count ≡ Some (length digits) = sym some ∙ told ∙ cond-true _ _ _ fits in
    (ap (λ o. unwrap_or o 0) length_is, is ∙ cond-true _ _ _ fits)
