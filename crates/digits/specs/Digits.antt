-- How a number is written in the digits of a base.
use Rattle.std.specs.Prelude.{ℕ, ◌/◌, ◌%◌, Bool, cond, List, [], ◌∷◌, ◌++◌, length, drop, Option, Some, None, nat_le}
use Rattle.std.specs.Int.Digits.{digits_of}

-- the digits, the highest first and no needless 0 in front, but one digit at least
unfoldable pub digits_in : ℕ → ℕ → List ℕ
digits_in base n = digits_of base (n / base) ++ (n % base ∷ [])

-- whether a page has room for some digits
abbrev pub digits_fit : List ℕ → List ℕ → Bool
digits_fit digits page = nat_le (length digits) (length page)

-- how many digits are written at the front of a page; none where it is too short
abbrev pub digits_written : List ℕ → List ℕ → Option ℕ
digits_written digits page = cond (digits_fit digits page) (Some (length digits)) None

-- the page after it: with the digits at its front, or untouched
abbrev pub page_after : List ℕ → List ℕ → List ℕ
page_after digits page = cond (digits_fit digits page) (digits ++ drop (length digits) page) page
