-- A fault of a text lies in it, or at its end, and its refusal is one of five.
use Rattle.std.proofs.Common.{◌≡◌, ℕ, zero, suc, ◌+◌, ◌≤◌, Bool, true, false, cond, leb, List, [], ◌∷◌, map, length, drop, get_or, Some, None, Ok, Err, Option, Result, sym, refl, ap, subst, ◌∙◌, arith}
use Rattle.std.specs.List.{list_all}
use Rattle.std.specs.Option.{option_map}
use Rattle.std.specs.Result.{is_ok}
use Rattle.std.proofs.lemmas.Bool.{and_parts, and_from, le-leb, leb-true, both_ways}
use Rattle.std.proofs.lemmas.List.{length-drop}
use Rattle.std.proofs.lemmas.Option.{none-some, same_Some}
use Rattle.oid.specs.Numbers.{Number, offsets, too_large, first_at, leading_zeros, large_numbers, wrong_count, wrong_start, read_numbers}
use Rattle.oid.specs.Refusals.{ask, fault_at, number_of}
use Rattle.oid.specs.declared.refusal.Fault.{Fault}
use Rattle.oid.specs.declared.refusal.Refusal.{Refusal}
use Rattle.oid.specs.declared.refusal.Refusal.TheVariants.{NotDotted, LeadingZero, ArcTooLarge, ArcCount}
use Rattle.dotted.specs.Form.{is_dot, is_digit, may_stand, faulty_from, faulty}
use Rattle.dotted.specs.Pieces.{Piece, longer, pieces_from, number_in, numbers_from}
use Rattle.dotted.specs.Prefix.{prefix_length}
use Rattle.dotted.specs.Reading.{bad_form, read_from, read_dotted}
use Rattle.dotted.proofs.Reading.{questions}
use Rattle.dotted.proofs.Theorems.{prefix_within}

-- the fault of a reading, or another where there is none
abbrev fault_or : {A : Type 0} → Fault → Result A Fault → Fault
fault_or other (Ok found) = other
fault_or other (Err fault) = fault

-- What is so of every fault that a question may end in is so of the fault that a reading ends in.
module _ (P : Fault → Type 0) where
  abbrev Each : Option Fault → Type 0
  Each question = (fault : Fault) → question ≡ Some fault → P fault

  abbrev Refused : {A : Type 0} → Result A Fault → Type 0
  Refused reading = (fault : Fault) → reading ≡ Err fault → P fault

  asked_each : {A : Type 0} (question : Option Fault) (others : Result A Fault) → Each question → Refused others → Refused (ask question others)
  asked_each None others one other fault is = other fault is
  asked_each (Some found) others one other fault is = one fault (ap (λ r. Some (fault_or found r)) is)

  at_each : (refusal : Refusal) (found : Option ℕ) → ((at : ℕ) → found ≡ Some at → P (fault_at refusal at)) → Each (option_map (fault_at refusal) found)
  at_each refusal None h fault is = absurd (none-some _ is)
  at_each refusal (Some at) h fault is = subst P (same_Some _ _ is) (h at refl)

  if_each : (v : Bool) (fault : Fault) → P fault → Each (cond v None (Some fault))
  if_each true fault h found is = absurd (none-some _ is)
  if_each false fault h found is = subst P (same_Some _ _ is) h

module _ (bound : ℕ) where
  form_within : (text : List ℕ) (offset : ℕ) (after : Bool) → offset + length text ≤ bound
      → (at : ℕ) → faulty_from offset after text ≡ Some at → at ≤ bound
  unfolding faulty_from
  form_within [] offset after h at is = absurd (none-some _ is)
  form_within (byte ∷ rest) offset after h at is = go (may_stand after byte rest) (form_within rest (offset + 1) (is_digit byte) (omega (arith, h))) is
    where
      go : (v : Bool) → ((at : ℕ) → faulty_from (offset + 1) (is_digit byte) rest ≡ Some at → at ≤ bound)
          → cond v (faulty_from (offset + 1) (is_digit byte) rest) (Some offset) ≡ Some at → at ≤ bound
      go true others e = others at e
      go false others e = omega (arith, h, same_Some _ _ e)

  faulty_within : (text : List ℕ) (offset : ℕ) → offset + length text ≤ bound → (at : ℕ) → faulty offset text ≡ Some at → at ≤ bound
  faulty_within [] offset h at is = omega (arith, h, same_Some _ _ is)
  faulty_within (byte ∷ rest) offset h at is = form_within (byte ∷ rest) offset false h at is

  abbrev starts_within : Number → Bool
  starts_within number = leb number.offset bound

  pieces_within : (text : List ℕ) (offset : ℕ) → offset + length text ≤ bound → list_all starts_within (numbers_from offset text) ≡ true
  unfolding pieces_from
  pieces_within [] offset h = and_from (leb offset bound) _ (le-leb offset bound (omega (arith, h))) refl
  pieces_within (byte ∷ rest) offset h = go (is_dot byte) (pieces_from (offset + 1) rest) (pieces_within rest (offset + 1) (omega (arith, h)))
    where
      here : leb offset bound ≡ true
      here = le-leb offset bound (omega (arith, h))

      go : (v : Bool) (pieces : List Piece) → list_all starts_within (map number_in pieces) ≡ true
          → list_all starts_within (map number_in (cond v (record { offset = offset; digits = [] } ∷ pieces) (longer offset byte pieces))) ≡ true
      go true pieces others = and_from (leb offset bound) _ here others
      go false [] others = refl
      go false (piece ∷ pieces) others = and_from (leb offset bound) _ here (and_parts (leb piece.offset bound) _ others).1

  first_within : (test : Number → Bool) (numbers : List Number) → list_all starts_within numbers ≡ true
      → (at : ℕ) → first_at test numbers ≡ Some at → at ≤ bound
  unfolding first_at
  first_within test [] all at is = absurd (none-some _ is)
  first_within test (number ∷ numbers) all at is = go (test number) (first_within test numbers parts.1) is
    where
      parts : (leb number.offset bound ≡ true) × (list_all starts_within numbers ≡ true)
      parts = and_parts (leb number.offset bound) _ all

      go : (v : Bool) → ((at : ℕ) → first_at test numbers ≡ Some at → at ≤ bound) → cond v (Some number.offset) (first_at test numbers) ≡ Some at → at ≤ bound
      go true others e = omega (arith, leb-true number.offset bound parts.0, same_Some _ _ e)
      go false others e = others at e

  place_within : (numbers : List Number) → list_all starts_within numbers ≡ true → (place : ℕ) → get_or (offsets numbers) place 0 ≤ bound
  place_within [] all place = omega arith
  place_within (number ∷ numbers) all zero = leb-true number.offset bound (and_parts (leb number.offset bound) _ all).0
  place_within (number ∷ numbers) all (suc place) = place_within numbers (and_parts (leb number.offset bound) _ all).1 place

  abbrev Ends : Fault → Type 0
  Ends fault = fault.offset ≤ bound

  numbers_within : (numbers : List Number) → list_all starts_within numbers ≡ true → Refused Ends (read_numbers numbers)
  unfolding read_numbers
  numbers_within numbers all =
      asked_each Ends (leading_zeros numbers) _ (at_each Ends LeadingZero _ (first_within (λ number. number.padded) numbers all))
      (asked_each Ends (large_numbers numbers) _ (at_each Ends ArcTooLarge _ (first_within too_large numbers all))
      (asked_each Ends (wrong_count (length numbers)) _ (if_each Ends _ (fault_at ArcCount 0) (omega arith))
      (asked_each Ends (wrong_start numbers) _ (if_each Ends _ _ (place_within numbers all _)) (λ fault is. absurd (both_ways true (ap is_ok is) refl)))))

  read_within : (offset : ℕ) (text : List ℕ) → offset + length text ≤ bound → Refused Ends (read_from offset text)
  read_within offset text h fault is =
      asked_each Ends (bad_form offset text) (read_numbers (numbers_from offset text)) (at_each Ends NotDotted _ (faulty_within text offset h)) (numbers_within _ (pieces_within text offset h)) fault (sym (questions offset text) ∙ is)

-- One of the first five refusals.
abbrev pub FirstFive : Fault → Type 0
FirstFive fault = number_of fault.refusal ≤ 5

numbers_five : (numbers : List Number) → Refused FirstFive (read_numbers numbers)
unfolding read_numbers
numbers_five numbers =
    asked_each FirstFive (leading_zeros numbers) _ (at_each FirstFive LeadingZero _ (λ at is. omega arith))
    (asked_each FirstFive (large_numbers numbers) _ (at_each FirstFive ArcTooLarge _ (λ at is. omega arith))
    (asked_each FirstFive (wrong_count (length numbers)) _ (if_each FirstFive _ (fault_at ArcCount 0) (omega arith))
    (asked_each FirstFive (wrong_start numbers) _ (if_each FirstFive _ _ (omega arith)) (λ fault is. absurd (both_ways true (ap is_ok is) refl)))))

-- the reading of a text is refused by one of these
pub first_five : (text : List ℕ) (fault : Fault) → read_dotted text ≡ Err fault → number_of fault.refusal ≤ 5
unfolding read_dotted
first_five text fault is =
    let start = prefix_length text in
    let rest = drop start text in
    asked_each FirstFive (bad_form start rest) (read_numbers (numbers_from start rest)) (at_each FirstFive NotDotted _ (λ at e. omega arith)) (numbers_five _) fault (sym (questions start rest) ∙ is)

-- a fault's offset lies in the text, or at its end
pub fault_within : (text : List ℕ) (fault : Fault) → read_dotted text ≡ Err fault → fault.offset ≤ length text
unfolding read_dotted
fault_within text fault is =
    read_within (length text) (prefix_length text) (drop (prefix_length text) text) (omega (arith, prefix_within text, length-drop (prefix_length text) text)) fault is
