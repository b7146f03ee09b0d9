-- The decimal text of a number: its digits in base 10.
use Rattle.std.proofs.Common.{◌≡◌, ℕ, ◌+◌, ◌/◌, ◌%◌, ◌^◌, ◌<◌, ◌≤◌, [], ◌∷◌, ◌++◌, map, length, decimal, sym, ap, ◌∙◌, ⊎_elim, arith}
use Rattle.std.specs.Int.Digits.{digits_of}
use Rattle.std.proofs.lemmas.Bool.{cases_lt}
use Rattle.std.proofs.lemmas.Fmt.{decimal_digit, decimal_step, decimal-digits_of, length-decimal-le}
use Rattle.std.proofs.lemmas.List.{length-map, map_push}
use Rattle.std.proofs.lemmas.Nat.{le-div}
use Rattle.digits.specs.Digits.{digits_in}
use Rattle.digits.proofs.Steps.{one_digit}

-- the byte that stands for a digit
abbrev pub written : ℕ → ℕ
written digit = 48 + digit

pub decimal_digits : (n : ℕ) → n < 2 ^ 64 → map written (digits_in 10 n) ≡ decimal n
unfolding digits_in
decimal_digits n fits = ⊎_elim below more (cases_lt n 10)
  where
    below : n < 10 → map written (digits_in 10 n) ≡ decimal n
    below h = ap (map written) (one_digit 10 n h) ∙ sym (decimal_digit n h)

    more : 10 ≤ n → map written (digits_in 10 n) ≡ decimal n
    more h =
        let higher = decimal-digits_of (n / 10) (omega (arith, le-div 1 n 10 (omega arith) (omega arith))) (omega arith) in
        map_push written (digits_of 10 (n / 10)) (n % 10)
        ∙ ap (λ digits. digits ++ (written (n % 10) ∷ [])) (sym higher)
        ∙ sym (decimal_step n h fits)

pub length_digits : (n : ℕ) → n < 2 ^ 64 → length (digits_in 10 n) ≡ length (decimal n)
length_digits n fits = sym (length-map (digits_in 10 n) written) ∙ ap length (decimal_digits n fits)

-- no number of 64 bits has more digits
pub length_most : (n : ℕ) → n < 2 ^ 64 → length (decimal n) ≤ 20
length_most n fits = length-decimal-le 20 n (omega arith) (omega arith) fits
