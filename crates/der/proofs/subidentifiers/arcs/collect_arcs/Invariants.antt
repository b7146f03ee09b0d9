use Rattle.std.proofs.Common.{◌≡◌, List, ◌++◌, map}
use Rattle.oid.specs.Collected.{Collected}
use Rattle.oid.specs.Numbers.{Number}
use Rattle.der.specs.Header.{header_length}
use Rattle.der.specs.Subidentifiers.{subidentifiers_from, later_arc, arc_numbers}
use Rattle.der.proofs.subidentifiers.arcs.collect_arcs.Given as goal

-- some arcs were collected, and with those of what is left they are all
abbrev pub invariant-loop-later : goal.invariant-loop-later
invariant-loop-later l =
    (done : List Number) × Collected l.collector done × (done ++ map later_arc (subidentifiers_from l.later-iterator.offset l.later-iterator.left.now) ≡ arc_numbers (subidentifiers_from header_length l.contents))
