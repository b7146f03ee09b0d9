-- What proofs may know of the arc limit. Besides, the proof of `arc_of` ties it to the code's constant, and worked
-- examples compute with it.
use Rattle.std.proofs.Common.{◌≡◌, ℕ, ◌+◌, ◌^◌, ◌<◌, ◌≤◌, true, false, cond, is_some, Some, None, refl, arith}
use Rattle.std.proofs.lemmas.Bool.{cond-true, cond-false, le-leb, lt-leb}
use Rattle.oid.specs.Arcs.{arc_limit, is_arc, arc_of}
use Rattle.oid.specs.Tree.{last_second}

-- an arc has room for one digit more in 64 bits
pub limit_room : arc_limit < 2 ^ 60
unfolding arc_limit
limit_room = omega arith

-- an identifier's first two arcs, joined, and every other arc have at most eight digits in base 128
pub limit_digits : arc_limit + 80 < 128 ^ 8
unfolding arc_limit
limit_digits = omega arith

-- every second arc under the roots 0 and 1 is an arc
pub limit_least : last_second ≤ arc_limit
unfolding arc_limit
limit_least = omega arith

-- every number of the code's type for arcs is one
pub limit_width : (n : ℕ) → n < 2 ^ 32 → n ≤ arc_limit
unfolding arc_limit
limit_width n fits = omega (arith, fits)

-- an arc has no more digits in decimal
abbrev pub arc_digits : ℕ
arc_digits = 10

--
pub limit_decimal : arc_limit < 10 ^ arc_digits
unfolding arc_limit
limit_decimal = omega arith

pub arc_of_some : (n : ℕ) → n ≤ arc_limit → arc_of n ≡ Some n
arc_of_some n h = cond-true (is_arc n) _ _ (le-leb n arc_limit h)

pub arc_of_none : (n : ℕ) → arc_limit < n → arc_of n ≡ None
arc_of_none n h = cond-false (is_arc n) _ _ (lt-leb n arc_limit h)

-- an arc that is found is one
pub is_arc_is : (n : ℕ) → is_some (arc_of n) ≡ is_arc n
is_arc_is n = elim (is_arc n) as (λ v. is_some (cond v (Some n) None) ≡ v) [ true ↦ refl | false ↦ refl ]
