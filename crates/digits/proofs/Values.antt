-- Numbers that are read digit by digit, in any base.
use Rattle.std.proofs.Common.{◌≡◌, ℕ, ◌+◌, ◌*◌, ◌<◌, ◌≤◌, min, List, [], ◌∷◌, map, ap, ⊎_elim, arith}
use Rattle.std.proofs.Math.Nat.{le-mul_of_pos_right}
use Rattle.std.proofs.lemmas.Bool.{cases_lt}
use Rattle.std.specs.Int.Digits.{number_from_digits_after}
use Rattle.std.specs.List.{fold}

-- one digit behind a value that is cut off at some largest number
digit_capped : (base largest value number digit : ℕ) → 0 < base → value ≡ min number largest
    → min (value * base + digit) largest ≡ min (number * base + digit) largest
digit_capped base largest value number digit some e = ⊎_elim above below (cases_lt largest number)
  where
    above : largest < number → min (value * base + digit) largest ≡ min (number * base + digit) largest
    above h = omega (arith, le-mul_of_pos_right value some, le-mul_of_pos_right number some)

    below : number ≤ largest → min (value * base + digit) largest ≡ min (number * base + digit) largest
    below h = let same : value ≡ number = omega arith in ap (λ n. min (n * base + digit) largest) same

-- one digit after the other, where each byte stands for a digit
pub value_capped : (base : ℕ) (digit : ℕ → ℕ) (largest : ℕ) (bytes : List ℕ) (value number : ℕ) → 0 < base → value ≡ min number largest
    → fold (λ value byte. min (value * base + digit byte) largest) value bytes ≡ min (number_from_digits_after base number (map digit bytes)) largest
value_capped base digit largest [] value number some e = e
value_capped base digit largest (byte ∷ bytes) value number some e =
    value_capped base digit largest bytes _ (number * base + digit byte) some (digit_capped base largest value number (digit byte) some e)
