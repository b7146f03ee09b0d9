-- The even arcs.
use Rattle.std.specs.Prelude.{◌%◌, nat_eq}
use Rattle.arc_rules.specs.Sets.{ArcSet}

abbrev pub even : ArcSet
even arc = nat_eq (arc % 2) 0
