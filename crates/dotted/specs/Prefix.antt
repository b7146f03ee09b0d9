-- The prefix that may stand before the arcs: RFC 3061's `urn:oid:`.
use Rattle.std.specs.Prelude.{ℕ, cond, List, length, codes}
use Rattle.oid.specs.Tree.{begins_with}

unfoldable pub prefix : List ℕ
prefix = codes "urn:oid:"

-- the length of the prefix at the front of a text; 0 where there is none
unfoldable pub prefix_length : List ℕ → ℕ
prefix_length text = cond (begins_with text prefix) (length prefix) 0
