use Rattle.std.proofs.Common.{◌≡◌, ◌+◌, take, length}
use Rattle.std.specs.Option.{option_map, option_map_or}
use Rattle.options.specs.Values.{kept_most, arcs_in}
use Rattle.options.proofs.Cutting.{parts_behind}
use Rattle.options.proofs.Keeping.{is_comma, kept_after}
use Rattle.options.proofs.values.arcs_in.Given as goal

-- what is kept at the end of what is left
abbrev pub invariant-loop-left : goal.invariant-loop-left
invariant-loop-left l = kept_after l.arcs.items (parts_behind is_comma l.left) ≡ option_map (take kept_most) (arcs_in l.text)

abbrev pub decreases-loop-left : goal.decreases-loop-left
decreases-loop-left l = option_map_or (λ rest. length rest.now + 1) l.left 0
