use Rattle.std.proofs.Common.{map, length, take, ap, sym, ◌∙◌, subst, arith}
use Rattle.std.proofs.lemmas.Iterator.Consumers.{YieldsList-from_first, YieldsList-turn, YieldsList-end}
use Rattle.std.proofs.lemmas.List.{length-map, length_push, take_all}
use Rattle.oid.specs.Collected.{Collected, numeral_of}
use Rattle.dotted.specs.Numerals.{numbers_left, numerals_left}
use Rattle.dotted.proofs.Numerals.{numbers_within, next_number}
use Rattle.dotted.proofs.pieces.collect_numbers.Goals as goal

pub loop-numeral-preserved : goal.loop-numeral-preserved
loop-numeral-preserved c =
    let all = numbers_left c.args.start c.args.text.now in
    let so_far = c.loop-numeral.yielded in
    let walk =
    YieldsList-from_first (λ x. x) numerals_left (map numeral_of all) (ap numerals_left c.into_iter-numeral-iterator.ensures.into_iter_gives) in
    let turn =
    YieldsList-turn walk so_far c.loop-numeral.numeral-iterator c.loop-numeral.yielded_by c.next.result c.next.new.self c.in-Some.numeral c.in-Some.is c.next.ensures.steps in
    let next = next_number all (length so_far) c.in-Some.numeral turn in
    subst (Collected c.add.new.self) (next.2 ∙ ap (λ n. take n all) (sym (length_push so_far c.in-Some.numeral))) (c.add.ensures _ next.0 next.1 c.loop-numeral.invariant)

pub returns : goal.returns
returns c =
    let text = c.args.text.now in
    let all = numbers_left c.args.start text in
    let so_far = c.loop-numeral.yielded in
    let walk =
    YieldsList-from_first (λ x. x) numerals_left (map numeral_of all) (ap numerals_left c.into_iter-numeral-iterator.ensures.into_iter_gives) in
    let end =
    YieldsList-end walk so_far c.loop-numeral.numeral-iterator c.loop-numeral.yielded_by c.next.result c.next.new.self c.in-None.is c.next.ensures.steps in
    let whole = take_all (length so_far) all (omega (arith, end.1, length-map all numeral_of)) in
    subst (Collected c.loop-numeral.collector) (whole ∙ numbers_within text c.args.start (omega arith)) c.loop-numeral.invariant
