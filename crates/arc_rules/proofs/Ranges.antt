-- The lowest arc of a range.
use Rattle.std.proofs.Common.{◌≡◌, ℕ, ◌≤◌, max, Some, nat_le, arith}
use Rattle.std.proofs.lemmas.Bool.{le-leb, lt-leb, and_from, and_left}
use Rattle.oid.specs.Arcs.{arc_limit}
use Rattle.arc_rules.specs.Sets.{from_to}
use Rattle.arc_rules.specs.Lowest.{IsLowest}

-- what is asked for or the first of the range, whichever is higher, where that is not above the last
pub lowest_in_range : (first last asked lowest : ℕ) → lowest ≡ max asked first → lowest ≤ last → lowest ≤ arc_limit
    → IsLowest (from_to first last) asked (Some lowest)
lowest_in_range first last asked lowest is in_range within = (
  omega (arith, is),
  within,
  and_from (nat_le first lowest) _ (le-leb first lowest (omega (arith, is))) (le-leb lowest last in_range),
  λ between from to. and_left (nat_le first between) _ (lt-leb first between (omega (arith, is, from, to))),
)
