use Rattle.std.proofs.Common.{◌≡◌, ◌+◌, ◌-◌, true, false, length, get_or, Ok, Err, sym, refl, ap, ◌∙◌, arith, rules}
use Rattle.std.proofs.lemmas.Result.{err_from_is_err_and}
use Rattle.oid.specs.Meaning.{arcs_of}
use Rattle.oid.specs.Refusals.{fault_at}
use Rattle.oid.specs.declared.refusal.Refusal.TheVariants.{Unfinished}
use Rattle.der.specs.Base128.{is_last}
use Rattle.der.proofs.Reading.{read_header, read_unfinished, read_padded, read_last}
use Rattle.der.proofs.Theorems.{reading_told}
use Rattle.der.proofs.reader.read.Goals as goal

pub returns-in_err-contents : goal.returns-in_err-contents
returns-in_err-contents c =
    let is = read_header c.args.bytes.now c.in_err-contents.field-0.0 c.in_err-contents.ensures.cases in
    let err = err_from_is_err_and c.from_residual.result c.from_residual.ensures.1 in
    let told = reading_told c.args.bytes.now (arcs_of c.args.identifier.now) _ _ _ (λ i. (c.type_inv.bytes i).fits) is (err.1 ∙ ap Err err.2) refl in
    record { value = told.value; after = told.after; same = rw err.1 refl; exactly = told.exact }

pub returns-then-not-is_some_and : goal.returns-then-not-is_some_and
returns-then-not-is_some_and c =
    let contents = c.in_ok-contents.contents.now in
    let ended : is_last (get_or contents (length contents - 1) 0) ≡ false = search rules in
    let is = read_unfinished c.args.bytes.now contents c.in_ok-contents.ensures.cases c.in_ok-contents.ensures.value ended in
    let at : 2 + length contents - 1 ≡ 2 + (length contents - 1) = omega (arith, c.in_ok-contents.ensures.some) in
    let told = reading_told c.args.bytes.now (arcs_of c.args.identifier.now) _ _ _ (λ i. (c.type_inv.bytes i).fits) is (ap Err (c.at.ensures ∙ ap (fault_at Unfinished) at)) refl in
    record { value = told.value; after = told.after; same = refl; exactly = told.exact }

pub returns-in-Some : goal.returns-in-Some
returns-in-Some c =
    let contents = c.in_ok-contents.contents.now in
    let ended : is_last (get_or contents (length contents - 1) 0) ≡ true = search rules in
    let is = read_padded c.args.bytes.now contents c.in_ok-contents.ensures.cases c.in_ok-contents.ensures.value ended c.in-Some.offset c.in-Some.ensures in
    let told = reading_told c.args.bytes.now (arcs_of c.args.identifier.now) _ _ _ (λ i. (c.type_inv.bytes i).fits) is (ap Err c.at-in-Some.ensures) refl in
    record { value = told.value; after = told.after; same = refl; exactly = told.exact }

pub returns-in_err-identifier : goal.returns-in_err-identifier
returns-in_err-identifier c =
    let contents = c.in_ok-contents.contents.now in
    let ended : is_last (get_or contents (length contents - 1) 0) ≡ true = search rules in
    let is = read_last c.args.bytes.now contents c.in_ok-contents.ensures.cases c.in_ok-contents.ensures.value ended c.in_default.ensures ∙ sym (c.in_err-identifier.ensures _ c.collect_arcs.ensures) in
    let err = err_from_is_err_and c.from_residual-in_err-identifier.result c.from_residual-in_err-identifier.ensures.1 in
    let told = reading_told c.args.bytes.now (arcs_of c.args.identifier.now) _ _ _ (λ i. (c.type_inv.bytes i).fits) is (err.1 ∙ ap Err err.2) refl in
    record { value = told.value; after = told.after; same = rw err.1 refl; exactly = told.exact }

pub returns : goal.returns
returns c =
    let contents = c.in_ok-contents.contents.now in
    let ended : is_last (get_or contents (length contents - 1) 0) ≡ true = search rules in
    let is = read_last c.args.bytes.now contents c.in_ok-contents.ensures.cases c.in_ok-contents.ensures.value ended c.in_default.ensures ∙ sym (c.in_ok-identifier.ensures _ c.collect_arcs.ensures) in
    let told = reading_told c.args.bytes.now (arcs_of c.args.identifier.now) _ _ _ (λ i. (c.type_inv.bytes i).fits) is (ap Ok c.in_ok-contents.ensures.told) refl in
    record { value = told.value; after = told.after; same = tt; exactly = told.exact }
