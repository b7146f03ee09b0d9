-- Decimal digits and the numbers that they write, both ways.
use Rattle.std.proofs.Common.{◌≡◌, ℕ, ◌-◌, ◌^◌, ◌<◌, ◌≤◌, true, false, ltb, List, map, length, get_or, decimal, refl, ap, ⊎_elim, arith}
use Rattle.std.specs.Int.Digits.{number_from_digits_after}
use Rattle.std.specs.Str.{all_ascii_digits}
use Rattle.std.proofs.lemmas.Fmt.{first_decimal, decimal_digit, digits_decimal, digits_value-decimal, decimal-digits_value}
use Rattle.std.proofs.lemmas.Str.Parse.{IsNumeralModel, numerals_by_fold, tells_all_ascii_digits}
use Rattle.std.proofs.lemmas.Bool.{and_parts, and_left, and_right, and_from, eq-eqb, ne_eqb, lt-ltb, le-ltb, leb-true, cases_lt, both_ways}
use Rattle.dotted.specs.Form.{is_dot, is_digit}
use Rattle.dotted.specs.Pieces.{decimal_value, leading_zero}

-- the value of digits after a number
abbrev value_after : ℕ → List ℕ → ℕ
value_after n digits = number_from_digits_after 10 n (map (λ byte. byte - 48) digits)

own : IsNumeralModel (λ ds. all_ascii_digits ds ≡ true) decimal_value
own =
    numerals_by_fold (λ ds. all_ascii_digits ds ≡ true) tells_all_ascii_digits value_after (record { empty = λ n. refl; more = λ n c cs h. refl })

pub digits_of : (n : ℕ) → n < 2 ^ 64 → all_ascii_digits (decimal n) ≡ true
digits_of n h = digits_decimal own n h

pub value_of : (n : ℕ) → n < 2 ^ 64 → decimal_value (decimal n) ≡ n
value_of n h = digits_value-decimal own n h

-- no number is written with a leading zero
pub unpadded_of : (n : ℕ) → n < 2 ^ 64 → leading_zero (decimal n) ≡ false
unpadded_of n h = ⊎_elim positive zero (cases_lt 0 n)
  where
    positive : 0 < n → leading_zero (decimal n) ≡ false
    positive some = and_right (ltb 1 (length (decimal n))) _ (ne_eqb (get_or (decimal n) 0 0) 48 (λ e. omega (arith, first_decimal n some h)))

    zero : n ≤ 0 → leading_zero (decimal n) ≡ false
    zero none = and_left (ltb 1 (length (decimal n))) _ (le-ltb 1 (length (decimal n)) (omega (arith, ap length (decimal_digit n (omega arith)))))

-- digits without a leading zero are what is written of their value
pub written_again : (digits : List ℕ) → all_ascii_digits digits ≡ true → 0 < length digits
    → leading_zero digits ≡ false → decimal_value digits < 2 ^ 64 → decimal (decimal_value digits) ≡ digits
written_again digits all some unpadded small = decimal-digits_value own digits all some single small
  where
    single : get_or digits 0 0 ≡ 48 → length digits ≡ 1
    single zero = ⊎_elim (λ more. absurd (both_ways (leading_zero digits) unpadded (and_from (ltb 1 (length digits)) _ (lt-ltb 1 (length digits) more) (eq-eqb (get_or digits 0 0) 48 zero)))) (λ few. omega arith) (cases_lt 1 (length digits))

-- a digit is no dot
pub digit_no_dot : (byte : ℕ) → is_digit byte ≡ true → is_dot byte ≡ false
digit_no_dot byte h = ne_eqb byte 46 (λ e. omega (arith, leb-true 48 byte (and_parts _ _ h).0))
