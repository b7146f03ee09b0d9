-- What a rule's set is, by what the rule keeps.
use Rattle.std.specs.Prelude.{Option}
use Rattle.arc_rules.specs.Sets.{ArcSet, from_to, among, without}
use Rattle.arc_rules.specs.declared.held_back.HeldBack.{HeldBack}
use Rattle.arc_rules.specs.declared.listed.Listed.{Listed}
use Rattle.arc_rules.specs.declared.range.Range.{Range}
use Rattle.arc_rules.specs.declared.refusal.RuleRefusal.{RuleRefusal}

abbrev pub range_set : Range → ArcSet
range_set range = from_to range.first range.last

-- of a layer, where the rule below it has the set `below` says
abbrev pub layer_set : {R : Type 0} → (R → ArcSet) → HeldBack R → ArcSet
layer_set below layer = without layer.first layer.last (below layer.below)

abbrev pub listed_set : Listed → ArcSet
listed_set listed = among listed.arcs.items

-- and whether a listed rule was refused
abbrev pub refusal_of : Listed → Option RuleRefusal
refusal_of listed = listed.refused_for
