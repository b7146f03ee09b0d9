use Rattle.std.proofs.Common.{◌≡◌, false, length, Err, sym, ap, ◌∙◌, arith}
use Rattle.std.specs.Result.{result_map_both}
use Rattle.oid.specs.Meaning.{arcs_of}
use Rattle.oid.proofs.Collecting.{finished}
use Rattle.oid.proofs.Numbers.{right_count, too_few, too_many, read_zero, read_large, read_count}
use Rattle.oid.proofs.collector.Collector.finish.Goals as goal
use Rattle.oid.proofs.collector.Collector.finish.Goals.{then-self-lt-FEWEST_ARCS-via-then-self-lt-FEWEST_ARCS, then-self-lt-FEWEST_ARCS-via-else-self-lt-FEWEST_ARCS+then-self-gt-MOST_ARCS}

pub returns-in-Some : goal.returns-in-Some
returns-in-Some c numbers known =
    ap Err c.at.ensures
    ∙ sym (read_zero numbers c.in-Some.offset (sym known.padded ∙ c.in-Some.is))

pub returns-in-Some-large : goal.returns-in-Some-large
returns-in-Some-large c numbers known =
    ap Err c.at-in-Some-large.ensures
    ∙ sym (read_large numbers (sym known.padded ∙ c.in_default.is) c.in-Some-large.offset (sym known.large ∙ c.in-Some-large.is))

pub returns-then-self-lt-FEWEST_ARCS : goal.returns-then-self-lt-FEWEST_ARCS
returns-then-self-lt-FEWEST_ARCS c numbers known =
    let miscounted : right_count (length numbers) ≡ false =
    elim c.then-self-lt-FEWEST_ARCS.branch [ then-self-lt-FEWEST_ARCS-via-then-self-lt-FEWEST_ARCS w ↦ too_few (length numbers) (omega (arith, known.count, w.if-self-lt-FEWEST_ARCS.true)) | then-self-lt-FEWEST_ARCS-via-else-self-lt-FEWEST_ARCS+then-self-gt-MOST_ARCS w ↦ too_many (length numbers) (omega (arith, known.count, w.if-self-gt-MOST_ARCS.true)) ] in
    ap Err c.at-then-self-lt-FEWEST_ARCS.ensures
    ∙ sym (read_count numbers (sym known.padded ∙ c.in_default.is) (sym known.large ∙ c.in_default-large.is) miscounted)

pub returns : goal.returns
returns c numbers known =
    ap (result_map_both arcs_of (λ other. other)) c.ok_or.ensures.value
    ∙ finished c.args.self.now numbers known c.in_default.is c.in_default-large.is c.if-self-lt-FEWEST_ARCS.false c.if-self-gt-MOST_ARCS.false
    c.from_arcs.result _ _ c.from_arcs.ensures c.at-unfit.ensures c.wrong_start.ensures
