use Rattle.std.proofs.Common.{ap, sym, ◌∙◌, arith, option_map}
use Rattle.options.proofs.Cutting.{parts_behind}
use Rattle.options.proofs.Keeping.{is_comma, kept_after, with_room, without_room, kept_start, kept_next, kept_end}
use Rattle.options.proofs.values.arcs_in.Goals as goal

pub loop-left-init : goal.loop-left-init
loop-left-init c = kept_start c.args.text c.is_empty.result c.new-arcs.result.items c.then_some-left.result c.new-arcs.ensures c.is_empty.ensures c.then_some-left.ensures

pub returns-in_err-arc : goal.returns-in_err-arc
returns-in_err-arc c =
    let next = kept_next c.loop-left.arcs.items c.loop-left.left c.in-Some.rest c.cut.result.0.now c.cut.result.1 c.in-Some.is c.cut.ensures.parts _ (sym c.in_err-arc.was ∙ c.numeral.ensures) in
    ap (option_map (λ arcs. arcs.items)) c.from_residual.ensures ∙ sym next ∙ c.loop-left.invariant

pub loop-left-preserved-then-len-lt-KEPT_MOST : goal.loop-left-preserved-then-len-lt-KEPT_MOST
loop-left-preserved-then-len-lt-KEPT_MOST c =
    let kept = c.loop-left.arcs.items in
    let next = kept_next kept c.loop-left.left c.in-Some.rest c.cut.result.0.now c.cut.result.1 c.in-Some.is c.cut.ensures.parts _ (sym c.in_ok-arc.was ∙ c.numeral.ensures) in
    ap (λ l. kept_after l (parts_behind is_comma c.cut.result.1)) (c.push.ensures.items ∙ sym (with_room kept c.in_ok-arc.arc (omega (arith, c.len.ensures.value))))
    ∙ sym next ∙ c.loop-left.invariant

pub loop-left-preserved : goal.loop-left-preserved
loop-left-preserved c =
    let kept = c.loop-left.arcs.items in
    let next = kept_next kept c.loop-left.left c.in-Some.rest c.cut.result.0.now c.cut.result.1 c.in-Some.is c.cut.ensures.parts _ (sym c.in_ok-arc.was ∙ c.numeral.ensures) in
    ap (λ l. kept_after l (parts_behind is_comma c.cut.result.1)) (sym (without_room kept c.in_ok-arc.arc (omega (arith, c.len.ensures.value, c.len.ensures.fits))))
    ∙ sym next ∙ c.loop-left.invariant

pub returns : goal.returns
returns c = sym (kept_end c.loop-left.arcs.items c.loop-left.left c.in_default.is) ∙ c.loop-left.invariant
