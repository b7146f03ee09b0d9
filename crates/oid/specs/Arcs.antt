-- Arcs: which numbers are arcs.
use Rattle.std.specs.Prelude.{ℕ, Bool, ◌+◌, cond, Some, None, Option, nat_le}

-- the largest arc
unfoldable pub arc_limit : ℕ
arc_limit = 4294967295

-- an arc is a whole number from 0 to the limit
abbrev pub is_arc : ℕ → Bool
is_arc n = nat_le n arc_limit

-- the number as an arc, or none where it is too large
abbrev pub arc_of : ℕ → Option ℕ
arc_of n = cond (is_arc n) (Some n) None

-- the arc one above an arc, or none above the largest
abbrev pub next_arc : ℕ → Option ℕ
next_arc arc = arc_of (arc + 1)
