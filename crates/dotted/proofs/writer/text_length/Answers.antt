use Rattle.std.proofs.Common.{◌≡◌, ◌+◌, ◌^◌, length, decimal, ap, arith, rules}
use borrow.Author.Tests.{tests}
use Rattle.std.specs.List.{sum_by}
use Rattle.std.proofs.lemmas.Iterator.{YieldsList-from_slice, YieldsList-from_map}
use Rattle.std.proofs.lemmas.Iterator.Consumers.{fits_by_from_yields_list}
use Rattle.dotted.specs.Writing.{dotted_text}
use Rattle.dotted.proofs.Texts.{length_with_dots, text_most}
use Rattle.dotted.proofs.writer.text_length.Goals as goal

pub sum-with_dots-requires-clause-fits : goal.sum-with_dots-requires-clause-fits
sum-with_dots-requires-clause-fits c =
    let arcs = c.arcs-arcs.result.now in
    fits_by_from_yields_list (λ arc. 1 + length (decimal arc)) arcs c.map.result (2 ^ 64) (YieldsList-from_map _ (λ arc. 1 + length (decimal arc)) (YieldsList-from_slice arcs (cc)) c.map.ensures.closure (λ x r q k. search (rules, tests))) (omega (arith, length_with_dots arcs c.arcs-arcs.ensures.rule, text_most arcs c.arcs-arcs.ensures.rule))

pub overflow_sub-result : goal.overflow_sub-result
overflow_sub-result c =
    let arcs = c.arcs-arcs.result.now in
    let is : c.sum-with_dots.result ≡ sum_by (λ arc. 1 + length (decimal arc)) arcs = search rules in
    omega (arith, length_with_dots arcs c.arcs-arcs.ensures.rule)

pub returns : goal.returns
returns c =
    let arcs = c.arcs-arcs.result.now in
    let is : c.sum-with_dots.result ≡ sum_by (λ arc. 1 + length (decimal arc)) arcs = search rules in
    let text = ap (λ list. length (dotted_text list)) c.arcs-arcs.ensures.value in
    omega (arith, length_with_dots arcs c.arcs-arcs.ensures.rule)
