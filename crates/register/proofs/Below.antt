-- The identifier below an authority.
use Rattle.std.proofs.Common.{◌≡◌, ℕ, ◌<◌, ◌^◌, true, false, List, [], ◌∷◌, ◌++◌, ◌&&◌, length, nat_lt, Some, Option, ◌∙◌}
use Rattle.std.specs.Option.{option_map}
use Rattle.std.proofs.lemmas.Bool.{cond-true, lt-ltb, le-leb}
use Rattle.oid.specs.Arcs.{arc_limit, is_arc}
use Rattle.arc_rules.specs.Sets.{ArcSet}
use Rattle.book.specs.Free.{in_set}
use Rattle.oid.specs.Meaning.{arcs_of}
use Rattle.oid.specs.Tree.{most_arcs, child_of}
use Rattle.oid.specs.declared.identifier.Identifier.{Identifier}
use Rattle.oid.proofs.Arcs.{limit_width}

pub child_is : (o : List ℕ) (arc : ℕ) (child : Option Identifier) → length o < most_arcs → arc < 2 ^ 32
    → option_map arcs_of child ≡ child_of o arc → option_map arcs_of child ≡ Some (o ++ arc ∷ [])
child_is o arc child room fits is =
    is ∙ cond-true (nat_lt (length o) most_arcs && is_arc arc) _ _ (rw (lt-ltb (length o) most_arcs room) (le-leb arc arc_limit (limit_width arc fits)))

-- whether an arc is in a set
pub arc_in_set : (set : ArcSet) (arc : ℕ) → arc < 2 ^ 32 → set arc ≡ true → in_set set arc ≡ true
arc_in_set set arc fits is = rw (le-leb arc arc_limit (limit_width arc fits)) is

pub arc_not_in_set : (set : ArcSet) (arc : ℕ) → arc < 2 ^ 32 → set arc ≡ false → in_set set arc ≡ false
arc_not_in_set set arc fits is = rw (le-leb arc arc_limit (limit_width arc fits)) is
