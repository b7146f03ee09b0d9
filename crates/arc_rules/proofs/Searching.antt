-- The search through an arc and all above it.
use Rattle.std.proofs.Common.{◌≡◌, ℕ, zero, suc, ◌+◌, ◌-◌, ◌<◌, ◌≤◌, Bool, true, false, cond, Some, None, Option, nat_lt, refl, subst, arith}
use Rattle.std.proofs.lemmas.Bool.{ltb-true, ltb-false}
use Rattle.std.specs.List.{find, range_with_len}
use Rattle.oid.specs.Arcs.{arc_limit}
use Rattle.arc_rules.specs.Sets.{ArcSet}
use Rattle.arc_rules.specs.Lowest.{lowest_from, IsLowest}

-- what is found among so many numbers that begin with a given one: one of them that is in the set, and none below it is; or none is
abbrev Finds : ArcSet → ℕ → ℕ → Option ℕ → Type 0
Finds set from count (Some arc) = (from ≤ arc) × (arc < from + count) × (set arc ≡ true)
    × ((between : ℕ) → from ≤ between → between < arc → set between ≡ false)
Finds set from count None = (arc : ℕ) → from ≤ arc → arc < from + count → set arc ≡ false

-- an arc that is not below a number is out of a set, if that number is, and if the arc is wherever it is above
one_more : (set : ArcSet) (from arc : ℕ) → set from ≡ false → from ≤ arc → (from + 1 ≤ arc → set arc ≡ false) → set arc ≡ false
one_more set from arc out above later = go (nat_lt from arc) refl
  where
    go : (v : Bool) → nat_lt from arc ≡ v → set arc ≡ false
    go true is = let higher = ltb-true from arc is in later (omega (arith, higher))
    go false is =
        let no_higher = ltb-false from arc is in
        let same : from ≡ arc = omega (arith, no_higher, above) in
        subst (λ number. set number ≡ false) same out

finds_later : (set : ArcSet) (from count : ℕ) → set from ≡ false → (found : Option ℕ) → Finds set (from + 1) count found → Finds set from (suc count) found
finds_later set from count out (Some arc) h = (
  omega (arith, h.0),
  omega (arith, h.1),
  h.2,
  λ between above below. one_more set from between out above (λ later. h.3 between later below),
)
finds_later set from count out None h = λ arc above below. one_more set from arc out above (λ later. h arc later (omega (arith, below)))

finds : (set : ArcSet) (from count : ℕ) → Finds set from count (find set (range_with_len from count))
finds set from zero = λ arc above below. absurd (omega (arith, above, below))
finds set from (suc count) = go (set from) refl (finds set (from + 1) count)
  where
    later : Option ℕ
    later = find set (range_with_len (from + 1) count)

    go : (v : Bool) → set from ≡ v → Finds set (from + 1) count later → Finds set from (suc count) (cond v (Some from) later)
    go true is rest = (omega arith, omega arith, is, λ between above below. absurd (omega (arith, above, below)))
    go false is rest = finds_later set from count is later rest

-- the first of an arc and all above it is the lowest
found_is_lowest : (set : ArcSet) (from : ℕ) (found : Option ℕ) → Finds set from (arc_limit + 1 - from) found → IsLowest set from found
found_is_lowest set from (Some arc) h = (h.0, omega (arith, h.0, h.1), h.2, h.3)
found_is_lowest set from None h = λ arc above within. h arc above (omega (arith, above, within))

pub search_is_lowest : (set : ArcSet) (from : ℕ) → IsLowest set from (lowest_from set from)
unfolding lowest_from
search_is_lowest set from = found_is_lowest set from _ (finds set from (arc_limit + 1 - from))
