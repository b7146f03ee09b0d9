-- The lowest arc of a set that is not below an arc: as a search, and by what is true of it.
use Rattle.std.specs.Prelude.{ℕ, ◌+◌, ◌-◌, ◌<◌, ◌≤◌, ◌≡◌, true, false, List, Some, None, Option}
use Rattle.std.specs.List.{find, range_with_len}
use Rattle.oid.specs.Arcs.{arc_limit}
use Rattle.arc_rules.specs.Sets.{ArcSet}

-- an arc and all above it, in ascending order, up to the limit
abbrev pub arcs_from : ℕ → List ℕ
arcs_from arc = range_with_len arc (arc_limit + 1 - arc)

-- The first of them that is in the set, or none. It is never computed: that could be a walk through all arcs.
unfoldable pub lowest_from : ArcSet → ℕ → Option ℕ
lowest_from set arc = find set (arcs_from arc)

-- What is true of the lowest arc, and of nothing else: it is an arc of the set that is not below the one given, with no arc of the set
-- between; or none, where no arc from the one given up to the limit is in the set.
abbrev pub IsLowest : ArcSet → ℕ → Option ℕ → Type 0
IsLowest set from (Some arc) = (from ≤ arc) × (arc ≤ arc_limit) × (set arc ≡ true)
    × ((between : ℕ) → from ≤ between → between < arc → set between ≡ false)
IsLowest set from None = (arc : ℕ) → from ≤ arc → arc ≤ arc_limit → set arc ≡ false
