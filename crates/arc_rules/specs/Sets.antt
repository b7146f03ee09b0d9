-- Sets of arcs.
use Rattle.std.specs.Prelude.{ℕ, Bool, List, ◌&&◌, false, not, nat_le, nat_eq}
use Rattle.std.specs.List.{list_any}

-- a set of arcs, as the test whether an arc is in it
abbrev pub ArcSet : Type 0
ArcSet = ℕ → Bool

-- no arc at all
abbrev pub no_arc : ArcSet
no_arc arc = false

-- the arcs from the first to the last; none where the first is above the last
abbrev pub from_to : ℕ → ℕ → ArcSet
from_to first last arc = nat_le first arc && nat_le arc last

-- the arcs of a list
abbrev pub among : List ℕ → ArcSet
among arcs arc = list_any (nat_eq arc) arcs

-- a set without the arcs from the first to the last
abbrev pub without : ℕ → ℕ → ArcSet → ArcSet
without first last set arc = set arc && not (from_to first last arc)
