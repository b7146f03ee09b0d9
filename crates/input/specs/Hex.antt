-- Pairs of hexadecimal digits, in capitals or small letters.
use Rattle.std.specs.Prelude.{ℕ, ◌+◌, ◌-◌, ◌*◌, ◌/◌, ◌%◌, Bool, not, ◌&&◌, cond, List, [], ◌∷◌, ◌++◌, length, get_or, drop, position, Some, None, Option, ◌==◌, nat_le, nat_lt}
use Rattle.std.specs.Char.{is_ascii_hexdigit}
use Rattle.std.specs.Int.{is_in_range}
use Rattle.std.specs.List.{flat_map}
use Rattle.std.specs.Option.{option_or}

-- a byte that is no digit: none of 0 to 9, A to F and a to f
abbrev pub is_stray : ℕ → Bool
is_stray byte = not (is_ascii_hexdigit byte)

-- two bytes that are no pair of digits
abbrev pub is_stray_pair : List ℕ → Bool
is_stray_pair pair = not (is_ascii_hexdigit (get_or pair 0 0) && is_ascii_hexdigit (get_or pair 1 0))

-- the value of a digit; of another byte 0
abbrev pub hex_value : ℕ → ℕ
hex_value byte = cond (is_in_range 48 57 byte) (byte - 48) (cond (is_in_range 65 70 byte) (byte - 55) (cond (is_in_range 97 102 byte) (byte - 87) 0))

-- the offset of the first byte at fault: the first that is no digit, else an odd last digit
abbrev pub unpaired : List ℕ → Option ℕ
unpaired digits = option_or (position is_stray digits) (cond (length digits % 2 == 1) (Some (length digits - 1)) None)

-- the bytes that pairs write, the higher digit first
unfoldable pub pairs_in : List ℕ → List ℕ
pairs_in [] = []
pairs_in (digit ∷ []) = []
pairs_in (high ∷ (low ∷ rest)) = (16 * hex_value high + hex_value low) ∷ pairs_in rest

-- whether a page has room for them
abbrev pub pairs_fit : List ℕ → List ℕ → Bool
pairs_fit digits page = nat_le (length (pairs_in digits)) (length page)

-- how many bytes are read into a page; none where it is too short
abbrev pub pairs_read : List ℕ → List ℕ → Option ℕ
pairs_read digits page = cond (pairs_fit digits page) (Some (length (pairs_in digits))) None

-- the page after it: with the bytes at its front, or untouched
abbrev pub page_after : List ℕ → List ℕ → List ℕ
page_after digits page = cond (pairs_fit digits page) (pairs_in digits ++ drop (length (pairs_in digits)) page) page

-- the digit that writes a value below 16, in capitals
abbrev pub digit_of : ℕ → ℕ
digit_of value = cond (nat_lt value 10) (48 + value) (55 + value)

-- the pair that writes a byte
abbrev pub pair_of : ℕ → List ℕ
pair_of byte = digit_of (byte / 16) ∷ (digit_of (byte % 16) ∷ [])

-- the pairs that write some bytes, with a text between neighbours
abbrev pub pairs_of : List ℕ → List ℕ → List ℕ
pairs_of between [] = []
pairs_of between (byte ∷ bytes) = pair_of byte ++ flat_map (λ b. between ++ pair_of b) bytes
