-- Questions 2 to 5, put to the numbers that a notation wrote, in their order.
use Rattle.std.specs.Prelude.{ℕ, Bool, cond, not, ◌&&◌, List, [], ◌∷◌, map, length, Some, None, Ok, Option, Result, nat_le, nat_lt, slice_index, slice_index_or}
use Rattle.std.specs.Option.{option_map}
use Rattle.oid.specs.Arcs.{is_arc}
use Rattle.oid.specs.Refusals.{fault_at, ask}
use Rattle.oid.specs.Tree.{fewest_arcs, most_arcs, last_root, starts_well}
use Rattle.oid.specs.declared.refusal.Fault.{Fault}
use Rattle.oid.specs.declared.refusal.Refusal.TheVariants.{LeadingZero, ArcTooLarge, ArcCount, FirstArcs}

-- A number as a notation writes it: where it begins, its value, and whether it has two or more digits
-- of which the first is 0.
pub record Number : Type 0 where
  pub offset : ℕ
  pub value : ℕ
  pub padded : Bool

abbrev pub values : List Number → List ℕ
values numbers = map (λ number. number.value) numbers

abbrev pub offsets : List Number → List ℕ
offsets numbers = map (λ number. number.offset) numbers

abbrev pub too_large : Number → Bool
too_large number = not (is_arc number.value)

-- the offset of the first number that a test picks
unfoldable pub first_at : (Number → Bool) → List Number → Option ℕ
first_at test [] = None
first_at test (number ∷ numbers) = cond (test number) (Some number.offset) (first_at test numbers)

-- 2. Does every number of several digits begin with another digit than 0? A no is told at the first that does not.
abbrev pub leading_zeros : List Number → Option Fault
leading_zeros numbers = option_map (fault_at LeadingZero) (first_at (λ number. number.padded) numbers)

-- 3. Is no number above the arc limit? A no is told at the first that is.
abbrev pub large_numbers : List Number → Option Fault
large_numbers numbers = option_map (fault_at ArcTooLarge) (first_at too_large numbers)

-- 4. Are there as many arcs as an identifier has, 2 to 16? A no is told at offset 0.
abbrev pub wrong_count : ℕ → Option Fault
wrong_count count = cond (nat_le fewest_arcs count && nat_le count most_arcs) None (Some (fault_at ArcCount 0))

-- 5. May an identifier begin with the first two numbers? A no is told at the first if it is no root, else at the
-- second.
abbrev pub wrong_start : List Number → Option Fault
wrong_start numbers =
    let first = slice_index_or (values numbers) 0 0 in
    let second = slice_index_or (values numbers) 1 0 in
    cond (starts_well first second) None (Some (fault_at FirstArcs (slice_index (offsets numbers) (cond (nat_lt last_root first) 0 1))))

-- The arcs that the numbers stand for, or the first no.
unfoldable pub read_numbers : List Number → Result (List ℕ) Fault
read_numbers numbers =
    ask (leading_zeros numbers) (ask (large_numbers numbers) (ask (wrong_count (length numbers)) (ask (wrong_start numbers) (Ok (values numbers)))))
