use Rattle.std.proofs.Common.{[], ◌∷◌, map, sym, ap, ◌∙◌, subst}
use Rattle.oid.specs.Collected.{Collected}
use Rattle.der.specs.Base128.{value_of}
use Rattle.der.specs.Subidentifiers.{number_in, subidentifiers_from, root_in, second_in, arc_number, later_arc, arc_numbers}
use Rattle.der.proofs.Joining.{later_numeral, root_numeral, second_numeral}
use Rattle.der.proofs.Series.{arcs_first, arcs_more, arcs_end}
use Rattle.der.proofs.subidentifiers.arcs.collect_arcs.Goals as goal

pub loop-later-init : goal.loop-later-init
loop-later-init c =
    let at = c.in-Some.first.offset in
    let n = value_of c.in-Some.first.bytes.now in
    let value = c.value-value.result in
    let root = c.root_in-root.result in
    let one = c.add.ensures [] (arc_number at (root_in n)) (root_numeral at n value c.value-value.ensures c.arc_numeral.result root c.root_in-root.ensures c.arc_numeral.ensures) c.new-collector.ensures in
    let two = c.add-2.ensures (arc_number at (root_in n) ∷ []) (arc_number at (second_in n)) (second_numeral at n value c.value-value.ensures c.arc_numeral-2.result root c.root_in-root.ensures c.arc_numeral-2.ensures) one in
    let left = c.into_iter-later-iterator.ensures.into_iter_gives in
    (_, two, (λ k. arc_number at (root_in n) ∷ (arc_number at (second_in n) ∷ map later_arc (subidentifiers_from (left k).offset (left k).left.now))) ∙ arcs_first at c.in-Some.first.bytes.now _ _ c.in-Some.ensures.steps ∙ (λ k. arc_numbers (subidentifiers_from (c.new-subidentifiers.ensures.offset k) (c.new-subidentifiers.ensures.left k))))

pub loop-later-preserved : goal.loop-later-preserved
loop-later-preserved c =
    let at = c.in-Some-later.later.offset in
    let bytes = c.in-Some-later.later.bytes.now in
    let n = value_of bytes in
    let done = c.loop-later.invariant.0 in
    let more = c.add-in-loop-later.ensures done (arc_number at n) (later_numeral at n c.value.result c.value.ensures c.arc_numeral-in-loop-later.result c.arc_numeral-in-loop-later.ensures) c.loop-later.invariant.1 in
    (_, more, arcs_more at bytes _ _ c.in-Some-later.ensures.steps done ∙ c.loop-later.invariant.2)

pub returns : goal.returns
returns c =
    let done = c.loop-later.invariant.0 in
    subst (Collected c.loop-later.collector) (sym (arcs_end done _ c.in-None.ensures.steps.0) ∙ c.loop-later.invariant.2) c.loop-later.invariant.1

pub returns-in_default : goal.returns-in_default
returns-in_default c =
    let none = ap (λ all. arc_numbers (map number_in all)) c.in_default.ensures.steps.0 in
    subst (Collected c.new-collector.result) (sym none ∙ (λ k. arc_numbers (subidentifiers_from (c.new-subidentifiers.ensures.offset k) (c.new-subidentifiers.ensures.left k)))) c.new-collector.ensures
