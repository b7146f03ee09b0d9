use Rattle.std.proofs.Common.{Err, sym, refl, ap, ◌∙◌}
use Rattle.std.proofs.lemmas.Result.{err_from_is_err_and}
use Rattle.dotted.proofs.Reading.{read_malformed, read_formed}
use Rattle.dotted.proofs.Theorems.{owed}
use Rattle.dotted.proofs.reader.read.Goals as goal

pub returns-in-Some : goal.returns-in-Some
returns-in-Some c =
    let is =
    read_malformed c.args.text.now c.prefix_length-start.result c.prefix_length-start.ensures.value c.in-Some.offset c.in-Some.ensures in
    let o = owed c.args.text.now _ _ _ _ is (ap Err c.at.ensures) refl in
    record { value = o.value; after = o.after; same = refl; exactly = o.exactly; prefixed = o.prefixed; first = o.first }

pub returns-in_err-identifier : goal.returns-in_err-identifier
returns-in_err-identifier c =
    let formed =
    read_formed c.args.text.now c.prefix_length-start.result c.prefix_length-start.ensures.value c.in_default.ensures in
    let is = formed ∙ sym (c.in_err-identifier.ensures _ c.collect_numbers.ensures) in
    let p = err_from_is_err_and c.from_residual.result c.from_residual.ensures.1 in
    let o = owed c.args.text.now _ _ _ _ is (p.1 ∙ ap Err p.2) refl in
    record { value = o.value; after = o.after; same = rw p.1 refl; exactly = o.exactly; prefixed = o.prefixed; first = o.first }

pub returns : goal.returns
returns c =
    let formed =
    read_formed c.args.text.now c.prefix_length-start.result c.prefix_length-start.ensures.value c.in_default.ensures in
    let is = formed ∙ sym (c.in_ok-identifier.ensures _ c.collect_numbers.ensures) in
    let o = owed c.args.text.now _ _ _ _ is refl refl in
    record { value = o.value; after = o.after; same = tt; exactly = o.exactly; prefixed = o.prefixed; first = o.first }
