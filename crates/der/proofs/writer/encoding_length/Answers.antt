use Rattle.std.proofs.Common.{◌≡◌, arith, rules}
use Rattle.std.specs.List.{sum_by}
use Rattle.std.proofs.lemmas.Iterator.{YieldsList-from_map, YieldsList-from_slice}
use Rattle.std.proofs.lemmas.Iterator.Consumers.{sum_by_from_yields_List, fits_by_from_yields_list}
use Rattle.oid.specs.Meaning.{arcs_of}
use Rattle.der.proofs.Contents.{count_bytes, contents_most, length_are, length_bytes}
use Rattle.der.proofs.writer.encoding_length.Goals as goal
use Rattle.der.proofs.writer.encoding_length.Goals.{After-sum-later_length}

pub sum-later_length-requires-clause-fits : goal.sum-later_length-requires-clause-fits
sum-later_length-requires-clause-fits c =
    let most = contents_most (arcs_of c.args.identifier.now) c.args.identifier.now.rule in
    let long = length_are _ _ _ c.subidentifiers_of-joined.ensures in
    fits_by_from_yields_list count_bytes c.subidentifiers_of-joined.result.1.now c.map.result _ (YieldsList-from_map _ count_bytes (YieldsList-from_slice c.subidentifiers_of-joined.result.1.now cc) c.map.ensures.closure (λ x r q k. search rules)) (omega arith)

summed : (c : After-sum-later_length) → c.sum-later_length.result ≡ sum_by count_bytes c.subidentifiers_of-joined.result.1.now
summed c =
    sum_by_from_yields_List count_bytes c.subidentifiers_of-joined.result.1.now c.map.result _ c.sum-later_length.ensures.ran (YieldsList-from_map _ count_bytes (YieldsList-from_slice c.subidentifiers_of-joined.result.1.now cc) c.map.ensures.closure (λ x r q k. search rules))

pub overflow_add-result : goal.overflow_add-result
overflow_add-result c =
    let most = contents_most (arcs_of c.args.identifier.now) c.args.identifier.now.rule in
    omega (arith, length_are _ _ _ c.subidentifiers_of-joined.ensures)

pub overflow_add-result-2 : goal.overflow_add-result-2
overflow_add-result-2 c =
    let most = contents_most (arcs_of c.args.identifier.now) c.args.identifier.now.rule in
    omega (arith, length_are _ _ _ c.subidentifiers_of-joined.ensures, summed (goal.at.overflow_add-result-2 c).After-sum-later_length)

pub returns : goal.returns
returns c =
    let most = contents_most (arcs_of c.args.identifier.now) c.args.identifier.now.rule in
    let long = length_are _ _ _ c.subidentifiers_of-joined.ensures in
    let sum = summed (goal.at.returns c).After-sum-later_length in
    let all = length_bytes (arcs_of c.args.identifier.now) in
    record { value = omega arith; bound = omega arith }
