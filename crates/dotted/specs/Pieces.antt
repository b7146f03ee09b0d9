-- Dotted text split at its dots, and the number that each piece writes.
use Rattle.std.specs.Prelude.{ℕ, ◌+◌, ◌-◌, Bool, cond, ◌&&◌, not, List, [], ◌∷◌, map, length, Some, None, Option, ◌==◌, nat_lt, slice_index}
use Rattle.std.specs.Int.Digits.{number_from_digits}
use Rattle.std.specs.Str.{all_ascii_digits}
use Rattle.oid.specs.Numbers.{Number}
use Rattle.dotted.specs.Form.{is_dot}

-- what stands between two dots, and where it begins
pub record Piece : Type 0 where
  pub offset : ℕ
  pub digits : List ℕ

-- one byte more at the front of the first piece
abbrev pub longer : ℕ → ℕ → List Piece → List Piece
longer offset byte [] = []
longer offset byte (piece ∷ pieces) = record { offset = offset; digits = byte ∷ piece.digits } ∷ pieces

-- the pieces of a text that begins at `offset`
unfoldable pub pieces_from : ℕ → List ℕ → List Piece
pieces_from offset [] = record { offset = offset; digits = [] } ∷ []
pieces_from offset (byte ∷ rest) =
    cond (is_dot byte) (record { offset = offset; digits = [] } ∷ pieces_from (offset + 1) rest) (longer offset byte (pieces_from (offset + 1) rest))

-- the number that decimal digits write, the highest first
abbrev pub decimal_value : List ℕ → ℕ
decimal_value digits = number_from_digits 10 (map (λ byte. byte - 48) digits)

-- two or more digits of which the first is 0
abbrev pub leading_zero : List ℕ → Bool
leading_zero digits = nat_lt 1 (length digits) && slice_index digits 0 == 48

-- decimal digits, one at least, and without a needless 0 in front
abbrev pub is_numeral : List ℕ → Bool
is_numeral text = nat_lt 0 (length text) && (all_ascii_digits text && not (leading_zero text))

-- the number that they write
abbrev pub numeral : List ℕ → Option ℕ
numeral text = cond (is_numeral text) (Some (decimal_value text)) None

abbrev pub number_in : Piece → Number
number_in piece = record { offset = piece.offset; value = decimal_value piece.digits; padded = leading_zero piece.digits }

abbrev pub numbers_from : ℕ → List ℕ → List Number
numbers_from offset text = map number_in (pieces_from offset text)
