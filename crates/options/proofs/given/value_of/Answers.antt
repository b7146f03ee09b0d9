use Rattle.std.proofs.Common.{◌≡◌, true, false, eqb, Some, sym, ap, ◌∙◌}
use Rattle.std.specs.Cmp.Lexicographic.{pointwise}
use Rattle.std.proofs.lemmas.Bool.{cond-true, cond-false}
use Rattle.options.specs.Names.{name_text}
use Rattle.options.proofs.Taking.{value_next, value_done}
use Rattle.options.proofs.given.value_of.Goals as goal

pub returns-then-eq : goal.returns-then-eq
returns-then-eq g c =
    let next = value_next g.S.AsStr.text c.args.option c.loop-left.left.now c.word-item.result c.value-item.result c.in-len2-up.len_at_least c.word-item.is c.value-item.is in
    let same : pointwise eqb (name_text c.args.option) (g.S.AsStr.text c.word-item.result) ≡ true = cc (c.eq.ensures, c.if-eq.true, c.text.ensures, c.as_str.ensures) in
    ap Some c.as_str-then-eq.ensures ∙ sym (cond-true _ _ _ same) ∙ sym next ∙ c.loop-left.invariant

pub loop-left-preserved : goal.loop-left-preserved
loop-left-preserved g c =
    let next = value_next g.S.AsStr.text c.args.option c.loop-left.left.now c.word-item.result c.value-item.result c.in-len2-up.len_at_least c.word-item.is c.value-item.is in
    let other : pointwise eqb (name_text c.args.option) (g.S.AsStr.text c.word-item.result) ≡ false = cc (c.eq.ensures, c.if-eq.false, c.text.ensures, c.as_str.ensures) in
    sym (next ∙ cond-false _ _ _ other) ∙ c.loop-left.invariant

pub returns : goal.returns
returns g c = sym (value_done g.S.AsStr.text c.args.option c.loop-left.left.now c.in_default.len_below) ∙ c.loop-left.invariant
