-- Base 128: how a subidentifier is written in bytes (X.690, 8.19.2).
use Rattle.std.specs.Prelude.{ℕ, ◌+◌, ◌/◌, ◌%◌, Bool, cond, List, [], ◌∷◌, ◌++◌, map, nat_lt}
use Rattle.std.specs.Int.Digits.{digits_of, number_from_digits}

-- what is added to each byte of a subidentifier but its last
abbrev pub more : ℕ
more = 0x80

-- nothing is added to the last byte
abbrev pub is_last : ℕ → Bool
is_last byte = nat_lt byte more

-- the digit that a byte stands for, whatever is added to it
abbrev pub digit_in : ℕ → ℕ
digit_in byte = byte % 128

-- the number that bytes stand for, the highest digit first
abbrev pub value_of : List ℕ → ℕ
value_of bytes = number_from_digits 128 (map digit_in bytes)

-- The bytes of a number: its digits in base 128, the highest first and no needless 0 in front, so that they are the
-- fewest, with 80 added to each but the last.
unfoldable pub base128 : ℕ → List ℕ
base128 n = map (λ digit. more + digit) (digits_of 128 (n / 128)) ++ (n % 128 ∷ [])

-- the bytes at the front that belong to one number: up to the first that can be a last byte, or all
unfoldable pub first_series : List ℕ → List ℕ
first_series [] = []
first_series (byte ∷ rest) = cond (is_last byte) (byte ∷ []) (byte ∷ first_series rest)
