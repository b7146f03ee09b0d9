-- The form of dotted text: digits, and dots between them.
use Rattle.std.specs.Prelude.{ℕ, ◌+◌, Bool, false, cond, ◌&&◌, ◌||◌, List, [], ◌∷◌, Some, None, Option, ◌==◌}
use Rattle.std.specs.Char.{is_ascii_digit}

abbrev pub dot : ℕ
dot = 46

abbrev pub is_dot : ℕ → Bool
is_dot byte = byte == dot

abbrev pub is_digit : ℕ → Bool
is_digit byte = is_ascii_digit byte

abbrev pub begins_with_digit : List ℕ → Bool
begins_with_digit [] = false
begins_with_digit (byte ∷ rest) = is_digit byte

-- A byte may stand before `rest`: a digit anywhere, a dot directly between two digits.
abbrev pub may_stand : Bool → ℕ → List ℕ → Bool
may_stand after_digit byte rest = is_digit byte || (is_dot byte && (after_digit && begins_with_digit rest))

-- The offset of the first byte at fault, in what follows a digit or not and begins at `offset`.
unfoldable pub faulty_from : ℕ → Bool → List ℕ → Option ℕ
faulty_from offset after_digit [] = None
faulty_from offset after_digit (byte ∷ rest) =
    cond (may_stand after_digit byte rest) (faulty_from (offset + 1) (is_digit byte) rest) (Some offset)

-- The same of a text that begins at `offset`: there must be at least one byte.
abbrev pub faulty : ℕ → List ℕ → Option ℕ
faulty offset [] = Some offset
faulty offset (byte ∷ rest) = faulty_from offset false (byte ∷ rest)
