use Rattle.std.proofs.Common.{◌≡◌, ℕ, true, leb, List, length, Some, Ok, Err, Result, sym, ap, ◌∙◌, arith}
use Rattle.std.specs.Result.{result_map_both}
use Rattle.std.proofs.lemmas.Bool.{and_parts, leb-true}
use Rattle.std.proofs.lemmas.Result.{err_from_is_err_and}
use Rattle.oid.specs.Meaning.{arcs_of}
use Rattle.request.specs.Fields.{Field, Part, number_fields, identifier_part}
use Rattle.request.specs.Limits.{least_line, most_line, is_line}
use Rattle.request.specs.Parts.{field_of, number_fields_of, split, split_of, three}
use Rattle.request.specs.Reading.{verb_in, fields_in, numbers_in, identifier_in, read_line, call_by}
use Rattle.request.specs.Requests.{reading_of}
use Rattle.request.specs.Verbs.{verb_of}
use Rattle.request.specs.declared.refusal.Fault.{Fault}
use Rattle.request.proofs.Asking.{no_fields, no_numbers, no_identifier, all_read, unmapped, unmapped_none, unmapped_ok, unmapped_err, call_three, fields_found, identifier_within}
use Rattle.request.proofs.Asked.{reads_exactly}
use Rattle.request.proofs.Refused.{answer_refused}
use Rattle.request.proofs.Placing.{place_read}
use Rattle.request.proofs.reader.read.Goals as goal
use Rattle.request.proofs.reader.read.Goals.{In-Some-of}

-- the line has so many bytes as are read, and this verb
module _ (c : In-Some-of) where
  sized : is_line c.args.line.now ≡ true
  sized = sym c.is_line.ensures ∙ c.if-not-is_line.false

  verb_is : verb_in c.args.line.now ≡ Some c.in-Some.verb
  verb_is = ap verb_of (sym c.first_piece-word.ensures) ∙ sym c.in-Some.ensures

  -- its fields are those that were found
  found : (list : List Field) × (fields_in c.in-Some.verb c.args.line.now ≡ Some list) × (split list ≡ split_of c.in-Some-of.fields)
  found =
      unmapped split _ (split_of c.in-Some-of.fields) (fields_found c.in-Some.verb c.args.line.now c.first_piece-word.result.now _ c.first_piece-word.ensures c.in-Some-of.ensures.value)

  numbers_are : (answer : Result (List ℕ) Fault) → answer ≡ result_map_both three (λ fault. fault) (numbers_in (number_fields_of c.in-Some-of.fields))
      → answer ≡ result_map_both three (λ fault. fault) (numbers_in (number_fields found.0))
  numbers_are answer is = is ∙ ap (λ p. result_map_both three (λ fault. fault) (numbers_in p.0)) (sym found.2)

pub returns-in_default-of : goal.returns-in_default-of
returns-in_default-of c =
    let value : result_map_both reading_of (λ fault. fault) (Err c.at-in_default-of.result) ≡ read_line c.args.line.now =
    ap Err c.at-in_default-of.ensures ∙ sym (no_fields c.args.line.now (sym c.is_line.ensures ∙ c.if-not-is_line.false) c.in-Some.verb (ap verb_of (sym c.first_piece-word.ensures) ∙ sym c.in-Some.ensures) (unmapped_none split _ (sym (fields_found c.in-Some.verb c.args.line.now c.first_piece-word.result.now _ c.first_piece-word.ensures c.in_default-of.ensures.value)))) in
    record { value = value; exactly = reads_exactly c.args.line.now _ value; refused = answer_refused c.args.line.now (Err c.at-in_default-of.result) value; place = place_read c.args.line.now (Err c.at-in_default-of.result) value }

pub returns-in_err-numbers : goal.returns-in_err-numbers
returns-in_err-numbers c =
    let s = (goal.at.returns-in_err-numbers c).In-Some-of in
    let f = found s in
    let p = err_from_is_err_and c.from_residual.result c.from_residual.ensures.1 in
    let no = unmapped_err three _ _ (numbers_are s _ c.in_err-numbers.ensures) in
    let found = c.from_residual.result in
    let value : result_map_both reading_of (λ fault. fault) found ≡ read_line c.args.line.now =
    ap (result_map_both reading_of (λ fault. fault)) (p.1 ∙ ap Err p.2) ∙ sym (no_numbers c.args.line.now (sized s) c.in-Some.verb (verb_is s) f.0 f.1 _ no) in
    record { value = value; exactly = reads_exactly c.args.line.now _ value; refused = answer_refused c.args.line.now found value; place = place_read c.args.line.now found value }

-- the part of the identifier's field
place_is : (s : In-Some-of) (place : Part) → place ≡ (field_of s.in-Some-of.fields.identifier).part → identifier_part (found s).0 ≡ place
place_is s place is = ap (λ p. p.1) (found s).2 ∙ sym is

pub identifier_in-requires : goal.identifier_in-requires
identifier_in-requires c =
    let s = (goal.at.identifier_in-requires c).In-Some-of in
    let f = found s in
    let same = place_is s _ c.part-part.ensures in
    let short = leb-true (length c.args.line.now) most_line (and_parts (leb least_line (length c.args.line.now)) _ (sized s)).1 in
    omega (arith, short, identifier_within c.in-Some.verb c.args.line.now f.0 f.1, ap (λ p. p.offset) same, ap (λ p. length p.text) same)

pub returns-in_err-identifier : goal.returns-in_err-identifier
returns-in_err-identifier c =
    let s = (goal.at.returns-in_err-identifier c).In-Some-of in
    let f = found s in
    let n = unmapped_ok three _ _ (numbers_are s _ c.in_ok-numbers.ensures) in
    let p = err_from_is_err_and c.from_residual-in_err-identifier.result c.from_residual-in_err-identifier.ensures.1 in
    let no = ap identifier_in (place_is s _ c.part-part.ensures) ∙ sym c.in_err-identifier.ensures in
    let found = c.from_residual-in_err-identifier.result in
    let value : result_map_both reading_of (λ fault. fault) found ≡ read_line c.args.line.now =
    ap (result_map_both reading_of (λ fault. fault)) (p.1 ∙ ap Err p.2) ∙ sym (no_identifier c.args.line.now (sized s) c.in-Some.verb (verb_is s) f.0 f.1 n.0 n.1 _ no) in
    record { value = value; exactly = reads_exactly c.args.line.now _ value; refused = answer_refused c.args.line.now found value; place = place_read c.args.line.now found value }

pub returns : goal.returns
returns c =
    let s = (goal.at.returns c).In-Some-of in
    let f = found s in
    let n = unmapped_ok three _ _ (numbers_are s _ c.in_ok-numbers.ensures) in
    let same = place_is s _ c.part-part.ensures in
    let arcs = arcs_of c.in_ok-identifier.identifier in
    let call = c.request.ensures ∙ ap (λ l. call_by c.in-Some.verb l arcs) (sym n.2) ∙ call_three c.in-Some.verb n.0 arcs in
    let yes = ap identifier_in same ∙ sym c.in_ok-identifier.ensures in
    let found = Ok (record { request = c.request.result; offset = c.part-part.result.offset }) in
    let value : result_map_both reading_of (λ fault. fault) found ≡ read_line c.args.line.now =
    (λ k. Ok (record { call = call k; offset = (sym same k).offset })) ∙ sym (all_read c.args.line.now (sized s) c.in-Some.verb (verb_is s) f.0 f.1 n.0 n.1 arcs yes) in
    record { value = value; exactly = reads_exactly c.args.line.now _ value; refused = answer_refused c.args.line.now found value; place = place_read c.args.line.now found value }
