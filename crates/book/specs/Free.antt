-- Which arcs an authority may give.
use Rattle.std.specs.Prelude.{ℕ, Bool, ◌&&◌, not, List, Option}
use Rattle.oid.specs.Arcs.{is_arc}
use Rattle.arc_rules.specs.Sets.{ArcSet}
use Rattle.arc_rules.specs.Lowest.{lowest_from}
use Rattle.book.specs.Book.{Entry, is_taken}

-- a number is an arc of the set; a set is a test of any number, so this asks too whether it is an arc
abbrev pub in_set : ArcSet → ℕ → Bool
in_set set arc = is_arc arc && set arc

-- the arcs of a set that no child has
abbrev pub untaken : ArcSet → List Entry → ArcSet
untaken set children arc = set arc && not (is_taken arc children)

-- the lowest of them
abbrev pub free_arc : ArcSet → List Entry → Option ℕ
free_arc set children = lowest_from (untaken set children) 0
