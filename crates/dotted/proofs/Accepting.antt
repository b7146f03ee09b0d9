-- A text is read as an identifier exactly when it is that identifier's text.
use Rattle.std.proofs.Common.{◌≡◌, ℕ, ◌<◌, true, false, not, List, [], ◌∷◌, map, length, get_or, Some, None, Ok, Option, decimal, sym, refl, ap, ◌∙◌, arith}
use Rattle.std.specs.List.{list_all}
use Rattle.std.specs.Option.{is_none, option_map}
use Rattle.std.specs.Str.{all_ascii_digits}
use Rattle.std.proofs.lemmas.Fmt.{decimal_nonempty}
use Rattle.std.proofs.lemmas.List.{length-map}
use Rattle.std.proofs.lemmas.Bool.{and_parts, and_from, not-false, both_ways, cond-false}
use Rattle.oid.specs.Arcs.{is_arc}
use Rattle.oid.specs.Numbers.{values, too_large, first_at, read_numbers}
use Rattle.oid.specs.Refusals.{ask, fault_at}
use Rattle.oid.specs.Tree.{all_arcs, starts_well, is_identifier}
use Rattle.oid.specs.declared.refusal.Refusal.TheVariants.{NotDotted}
use Rattle.oid.proofs.Numbers.{none_mapped, asked, accepted, first_at_none, counted, read_all}
use Rattle.oid.proofs.Tree.{keeps}
use Rattle.dotted.specs.Form.{faulty}
use Rattle.dotted.specs.Pieces.{Piece, pieces_from, decimal_value, leading_zero, number_in, numbers_from}
use Rattle.dotted.specs.Reading.{bad_form, read_from}
use Rattle.dotted.specs.Writing.{dotted_text}
use Rattle.dotted.proofs.Parts.{digits_in, number_text, pieces_parts, form, text_parts, parts_text}
use Rattle.dotted.proofs.Reading.{questions}
use Rattle.dotted.proofs.Spelling.{digits_of, value_of, unpadded_of, written_again}
use Rattle.dotted.proofs.Texts.{arc_fits}

-- the digits of arcs are numbers
number_of : (digits : List ℕ) → all_ascii_digits digits ≡ true → 0 < length digits → number_text digits ≡ true
number_of [] all some = absurd (omega arith)
number_of (byte ∷ digits) all some = all

numbers_of : (arcs : List ℕ) → all_arcs arcs ≡ true → list_all number_text (map decimal arcs) ≡ true
unfolding all_arcs
numbers_of [] h = refl
numbers_of (arc ∷ arcs) h =
    let parts = and_parts (is_arc arc) (all_arcs arcs) h in
    let fits = arc_fits arc parts.0 in
    and_from (number_text (decimal arc)) _ (number_of (decimal arc) (digits_of arc fits) (decimal_nonempty arc fits)) (numbers_of arcs parts.1)

-- Pieces with the digits of arcs: none has a leading zero or is too large, and their values are the arcs.
record Plain (pieces : List Piece) (arcs : List ℕ) : Type 0 where
  no_zero : first_at (λ number. number.padded) (map number_in pieces) ≡ None
  no_large : first_at too_large (map number_in pieces) ≡ None
  read : values (map number_in pieces) ≡ arcs

plain : (pieces : List Piece) (arcs : List ℕ) → all_arcs arcs ≡ true → digits_in pieces ≡ map decimal arcs → Plain pieces arcs
unfolding first_at all_arcs
plain [] [] h e = record { no_zero = refl; no_large = refl; read = refl }
plain [] (arc ∷ arcs) h e = absurd (omega (arith, ap length e))
plain (piece ∷ pieces) [] h e = absurd (omega (arith, ap length e))
plain (piece ∷ pieces) (arc ∷ arcs) h e =
    let parts = and_parts (is_arc arc) (all_arcs arcs) h in
    let fits = arc_fits arc parts.0 in
    let here : piece.digits ≡ decimal arc = cc in
    let others : digits_in pieces ≡ map decimal arcs = cc in
    let value : decimal_value piece.digits ≡ arc = ap decimal_value here ∙ value_of arc fits in
    let rest = plain pieces arcs parts.1 others in
    let unpadded : leading_zero piece.digits ≡ false = ap leading_zero here ∙ unpadded_of arc fits in
    let small : too_large (number_in piece) ≡ false = ap (λ n. not (is_arc n)) value ∙ ap not parts.0 in
    record {
      no_zero = cond-false (leading_zero piece.digits) _ _ unpadded ∙ rest.no_zero;
      no_large = cond-false (too_large (number_in piece)) _ _ small ∙ rest.no_large;
      read = λ k. value k ∷ rest.read k;
    }

-- the reading of an identifier's text, wherever it begins
pub read_text : (arcs : List ℕ) (offset : ℕ) → is_identifier arcs ≡ true → read_from offset (dotted_text arcs) ≡ Ok arcs
read_text arcs offset h =
    let k = keeps arcs h in
    let text = dotted_text arcs in
    let parts = parts_text arcs (omega (arith, k.long)) k.each in
    let formed = none_is (faulty offset text) (form offset text ∙ ap (list_all number_text) parts ∙ numbers_of arcs k.each) in
    let found = plain (pieces_from offset text) arcs k.each (pieces_parts offset text ∙ parts) in
    let numbers = numbers_from offset text in
    let long : length numbers ≡ length arcs = sym (length-map numbers (λ n. n.value)) ∙ ap length found.read in
    let starts = ap (λ l. starts_well (get_or l 0 0) (get_or l 1 0)) found.read ∙ k.start in
    questions offset text
    ∙ ap (λ o. ask (option_map (fault_at NotDotted) o) (read_numbers numbers)) formed
    ∙ read_all numbers found.no_zero found.no_large (counted (length numbers) (omega (arith, k.long)) (omega (arith, k.short))) starts
    ∙ ap Ok found.read
  where
    none_is : (o : Option ℕ) → is_none o ≡ true → o ≡ None
    none_is None e = refl
    none_is (Some n) e = absurd (both_ways false refl e)

-- a number that is neither too large nor has a leading zero is the decimal text of its value
spelled_piece : (digits : List ℕ) → number_text digits ≡ true → leading_zero digits ≡ false
    → is_arc (decimal_value digits) ≡ true → digits ≡ decimal (decimal_value digits)
spelled_piece [] number unpadded small = absurd (both_ways false refl number)
spelled_piece (byte ∷ digits) number unpadded small =
    sym (written_again (byte ∷ digits) number (omega arith) unpadded (arc_fits (decimal_value (byte ∷ digits)) small))

spelled : (pieces : List Piece) → list_all number_text (digits_in pieces) ≡ true
    → first_at (λ number. number.padded) (map number_in pieces) ≡ None
    → first_at too_large (map number_in pieces) ≡ None
    → digits_in pieces ≡ map decimal (values (map number_in pieces))
spelled [] all zeros larges = refl
spelled (piece ∷ pieces) all zeros larges =
    let parts = and_parts (number_text piece.digits) _ all in
    let z = first_at_none (λ number. number.padded) (number_in piece) (map number_in pieces) zeros in
    let l = first_at_none too_large (number_in piece) (map number_in pieces) larges in
    let here = spelled_piece piece.digits parts.0 z.0 (not-false (is_arc (decimal_value piece.digits)) l.0) in
    let others = spelled pieces parts.1 z.1 l.1 in
    λ k. here k ∷ others k

-- what is read as some arcs is their text, and they are an identifier
pub text_read : (text : List ℕ) (offset : ℕ) (arcs : List ℕ) → read_from offset text ≡ Ok arcs
    → (is_identifier arcs ≡ true) × (text ≡ dotted_text arcs)
text_read text offset arcs e =
    let pieces = pieces_from offset text in
    let q = asked (bad_form offset text) (read_numbers (numbers_from offset text)) arcs (sym (questions offset text) ∙ e) in
    let found = accepted (numbers_from offset text) arcs q.1 in
    let none = none_mapped (fault_at NotDotted) (faulty offset text) q.0 in
    let numbers : list_all number_text (digits_in pieces) ≡ true =
    ap (list_all number_text) (pieces_parts offset text) ∙ sym (form offset text) ∙ ap is_none none in
    let digits = spelled pieces numbers found.no_zero found.no_large in
    (found.rule, text_parts text arcs (sym (pieces_parts offset text) ∙ digits ∙ ap (map decimal) found.read))
