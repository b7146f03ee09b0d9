-- What the questions come to, one after the other.
use Rattle.std.proofs.Common.{◌≡◌, ℕ, ◌+◌, ◌^◌, ◌<◌, ◌≤◌, Bool, true, false, cond, leb, ltb, List, [], ◌∷◌, length, drop, find, Some, None, Ok, Err, Option, Result, unwrap_or, refl, sym, ap, ◌∙◌, arith}
use Rattle.std.specs.List.{before_first, list_all, join_with_byte}
use Rattle.std.specs.Option.{option_map}
use Rattle.std.specs.Result.{is_ok, result_map_both}
use Rattle.std.proofs.lemmas.Bool.{and_parts, and_from, cond-true, le-leb, leb-true, both_ways}
use Rattle.std.proofs.lemmas.List.{length-append}
use Rattle.std.proofs.lemmas.List.Splits.{join_with_byte-slice_split}
use Rattle.std.proofs.lemmas.Option.{none-some, same_Some}
use Rattle.oid.specs.Refusals.{answered}
use Rattle.oid.specs.declared.refusal.Fault as oid
use Rattle.dotted.specs.Reading.{read_dotted}
use Rattle.dotted.proofs.Within.{fault_within}
use Rattle.request.specs.Limits.{is_line}
use Rattle.request.specs.Refusals.{fault_at, ask, there_is, and_then}
use Rattle.request.specs.Verbs.{Sort, form_of}
use Rattle.request.specs.Fields.{space, is_space, words, Part, Field, parts_from, parts_of, in_form, is_identifier_sort, number_fields, identifier_part}
use Rattle.request.specs.Parts.{split, three}
use Rattle.request.specs.Reading.{Reading, call_by, verb_in, fields_in, numbers_in, identifier_in, read_line}
use Rattle.request.specs.declared.refusal.Fault.{Fault}
use Rattle.request.specs.declared.refusal.LineRefusal.TheVariants.{LineLength, UnknownVerb, WrongFields}
use Rattle.request.specs.declared.refusal.Refusal.TheVariants.{Line}
use Rattle.request.specs.declared.verb.Verb.{Verb}
use Rattle.request.specs.declared.verb.Verb.TheVariants.{Grant, Claim, Offer, Accept, Decline, Retire, Roll}
use Rattle.request.proofs.Forms.{field}
use Rattle.request.proofs.Walking.{part, parts_at, next_part}

abbrev with_identifier : Verb → List ℕ → Part → Result (List ℕ) Fault → Result Reading Fault
with_identifier verb numbers place found =
    and_then found (λ identifier. Ok (record { call = call_by verb numbers identifier; offset = place.offset }))

abbrev with_numbers : Verb → List Field → Result (List ℕ) Fault → Result Reading Fault
with_numbers verb fields found =
    and_then found (λ numbers. with_identifier verb numbers (identifier_part fields) (identifier_in (identifier_part fields)))

abbrev with_fields : Verb → Option (List Field) → Result Reading Fault
with_fields verb found =
    there_is (fault_at (Line WrongFields) 0) found (λ fields. with_numbers verb fields (numbers_in (number_fields fields)))

module _ (line : List ℕ) (sized : is_line line ≡ true) where
  by_verb : read_line line ≡ there_is (fault_at (Line UnknownVerb) 0) (verb_in line) (λ verb. with_fields verb (fields_in verb line))
  unfolding read_line
  by_verb = ap (λ v. ask (fault_at (Line LineLength) 0) v (there_is (fault_at (Line UnknownVerb) 0) (verb_in line) (λ verb. with_fields verb (fields_in verb line)))) sized

  pub no_verb : verb_in line ≡ None → read_line line ≡ Err (fault_at (Line UnknownVerb) 0)
  no_verb none = by_verb ∙ ap (λ o. there_is (fault_at (Line UnknownVerb) 0) o (λ verb. with_fields verb (fields_in verb line))) none

  module _ (verb : Verb) (is : verb_in line ≡ Some verb) where
    by_fields : read_line line ≡ with_fields verb (fields_in verb line)
    by_fields = by_verb ∙ ap (λ o. there_is (fault_at (Line UnknownVerb) 0) o (λ v. with_fields v (fields_in v line))) is

    pub no_fields : fields_in verb line ≡ None → read_line line ≡ Err (fault_at (Line WrongFields) 0)
    no_fields none = by_fields ∙ ap (with_fields verb) none

    module _ (fields : List Field) (there : fields_in verb line ≡ Some fields) where
      by_numbers : read_line line ≡ with_numbers verb fields (numbers_in (number_fields fields))
      by_numbers = by_fields ∙ ap (with_fields verb) there

      pub no_numbers : (fault : Fault) → numbers_in (number_fields fields) ≡ Err fault → read_line line ≡ Err fault
      no_numbers fault none = by_numbers ∙ ap (with_numbers verb fields) none

      module _ (numbers : List ℕ) (read : numbers_in (number_fields fields) ≡ Ok numbers) where
        by_identifier : read_line line ≡ with_identifier verb numbers (identifier_part fields) (identifier_in (identifier_part fields))
        by_identifier = by_numbers ∙ ap (with_numbers verb fields) read

        pub no_identifier : (fault : Fault) → identifier_in (identifier_part fields) ≡ Err fault → read_line line ≡ Err fault
        no_identifier fault none = by_identifier ∙ ap (with_identifier verb numbers (identifier_part fields)) none

        pub all_read : (arcs : List ℕ) → identifier_in (identifier_part fields) ≡ Ok arcs
            → read_line line ≡ Ok (record { call = call_by verb numbers arcs; offset = (identifier_part fields).offset })
        all_read arcs found = by_identifier ∙ ap (with_identifier verb numbers (identifier_part fields)) found

-- a line that is too short or too long
pub not_sized : (line : List ℕ) → is_line line ≡ false → read_line line ≡ Err (fault_at (Line LineLength) 0)
unfolding read_line
not_sized line sized =
    ap (λ v. ask (fault_at (Line LineLength) 0) v (there_is (fault_at (Line UnknownVerb) 0) (verb_in line) (λ verb. with_fields verb (fields_in verb line)))) sized

-- behind the first word begin the fields
pub fields_behind : (line word : List ℕ) → word ≡ before_first is_space line → parts_at (length word + 1) line ≡ drop 1 (parts_of line)
fields_behind line word is =
    let first = next_part line 0 word (omega arith) is in
    let start = cond-true (leb 0 (length line)) (parts_of line) [] (le-leb 0 (length line) (omega arith)) in
    let place : 0 + (length word + 1) ≡ length word + 1 = omega arith in
    ap (λ n. parts_at n line) (sym place) ∙ ap (drop 1) (sym first ∙ start)

-- a mapped option that is there was there
pub unmapped : {A B : Type 0} (f : A → B) (found : Option A) (value : B) → Some value ≡ option_map f found
    → (thing : A) × (found ≡ Some thing) × (f thing ≡ value)
unmapped f None value is = absurd (none-some _ (sym is))
unmapped f (Some thing) value is = (thing, refl, sym (same_Some _ _ is))

pub unmapped_none : {A B : Type 0} (f : A → B) (found : Option A) → option_map f found ≡ None → found ≡ None
unmapped_none f None is = refl
unmapped_none f (Some thing) is = absurd (none-some _ (sym is))

-- the value of a reading, or another where it has a fault
abbrev value_or : {A : Type 0} → A → Result A Fault → A
value_or other (Ok value) = value
value_or other (Err fault) = other

abbrev pub fault_or : {A : Type 0} → Fault → Result A Fault → Fault
fault_or other (Ok value) = other
fault_or other (Err fault) = fault

pub unmapped_ok : {A B : Type 0} (f : A → B) (found : Result A Fault) (value : B) → Ok value ≡ result_map_both f (λ fault. fault) found
    → (thing : A) × (found ≡ Ok thing) × (f thing ≡ value)
unmapped_ok f (Ok thing) value is = (thing, refl, sym (ap (value_or value) is))
unmapped_ok f (Err fault) value is = absurd (both_ways true (ap is_ok is) refl)

pub unmapped_err : {A B : Type 0} (f : A → B) (found : Result A Fault) (fault : Fault) → Err fault ≡ result_map_both f (λ fault. fault) found
    → found ≡ Err fault
unmapped_err f (Ok thing) fault is = absurd (both_ways true (ap is_ok (sym is)) refl)
unmapped_err f (Err other) fault is = ap Err (sym (ap (fault_or fault) is))

abbrev at : ℕ → Result (Unit {0}) oid.Fault → ℕ
at other (Ok done) = other
at other (Err fault) = fault.offset

module _ (bound : ℕ) where
  abbrev within : Part → Bool
  within p = leb (p.offset + length p.text) bound

  -- words with one space between them end within their line
  words_within : (offset : ℕ) (list : List (List ℕ)) → offset + length (join_with_byte space list) ≤ bound
      → list_all within (parts_from offset list) ≡ true
  unfolding parts_from
  words_within offset [] h = refl
  words_within offset (word ∷ []) h = and_from (leb (offset + length word) bound) _ (le-leb (offset + length word) bound (omega (arith, h))) refl
  words_within offset (word ∷ next ∷ list) h =
      let long = length-append word (space ∷ join_with_byte space (next ∷ list)) in
      and_from (leb (offset + length word) bound) _ (le-leb (offset + length word) bound (omega (arith, h, long)))
      (words_within (offset + length word + 1) (next ∷ list) (omega (arith, h, long)))

  behind_within : (parts : List Part) → list_all within parts ≡ true → list_all within (drop 1 parts) ≡ true
  behind_within [] h = refl
  behind_within (p ∷ parts) h = (and_parts (within p) _ h).1

  form_within : (form : List Sort) (parts : List Part) (fields : List Field) → list_all within parts ≡ true
      → in_form form parts ≡ Some fields → list_all (λ f. within f.part) fields ≡ true
  unfolding in_form
  form_within [] [] fields h is = ap (list_all (λ f. within f.part)) (sym (same_Some _ _ is))
  form_within [] (p ∷ parts) fields h is = absurd (none-some _ is)
  form_within (sort ∷ form) [] fields h is = absurd (none-some _ is)
  form_within (sort ∷ form) (p ∷ parts) fields h is =
      go (ltb 0 (length p.text)) (in_form form parts) (λ l e. form_within form parts l split.1 e) is
    where
      split : (within p ≡ true) × (list_all within parts ≡ true)
      split = and_parts (within p) _ h

      go : (v : Bool) (found : Option (List Field)) → ((l : List Field) → found ≡ Some l → list_all (λ f. within f.part) l ≡ true)
          → cond v (option_map (λ l. field sort p ∷ l) found) None ≡ Some fields → list_all (λ f. within f.part) fields ≡ true
      go false found others e = absurd (none-some _ e)
      go true None others e = absurd (none-some _ e)
      go true (Some l) others e =
          ap (list_all (λ f. within f.part)) (sym (same_Some _ _ e)) ∙ and_from (within p) _ split.0 (others l refl)

  found_within : (fields : List Field) → list_all (λ f. within f.part) fields ≡ true → within (identifier_part fields) ≡ true
  found_within [] h = le-leb 0 bound (omega arith)
  found_within (f ∷ fields) h = go (is_identifier_sort f.sort) (found_within fields (and_parts (within f.part) _ h).1)
    where
      go : (v : Bool) → within (identifier_part fields) ≡ true
          → within (unwrap_or (option_map (λ g. g.part) (cond v (Some f) (find (λ g. is_identifier_sort g.sort) fields))) (part 0 [])) ≡ true
      go true others = (and_parts (within f.part) _ h).0
      go false others = others

-- the identifier's field ends within the line
pub identifier_within : (verb : Verb) (line : List ℕ) (fields : List Field) → fields_in verb line ≡ Some fields
    → (identifier_part fields).offset + length (identifier_part fields).text ≤ length line
identifier_within verb line fields is =
    let all = words_within (length line) 0 (words line) (omega (arith, ap length (join_with_byte-slice_split space line))) in
    leb-true _ (length line) (found_within (length line) fields (form_within (length line) (form_of verb) (drop 1 (parts_of line)) fields (behind_within (length line) (parts_of line) all) is))

-- a fault of a part's text, further on by where the part begins, is at a number of 64 bits
pub fault_placed : (place : Part) (fault : oid.Fault) → place.offset + length place.text < 2 ^ 64 → Err fault ≡ answered (read_dotted place.text)
    → place.offset + fault.offset < 2 ^ 64
fault_placed place fault h is = go (read_dotted place.text) refl is
  where
    go : (reading : Result (List ℕ) oid.Fault) → reading ≡ read_dotted place.text → Err fault ≡ answered reading → place.offset + fault.offset < 2 ^ 64
    go (Ok arcs) same e = absurd (both_ways true (ap is_ok (sym e)) refl)
    go (Err other) same e = omega (arith, h, fault_within place.text other (sym same), ap (at 0) e)

-- the fields that the code has found, as those of the line
pub fields_found : (verb : Verb) (line word : List ℕ) (found : Option (List Field × Part)) → word ≡ before_first is_space line
    → found ≡ option_map split (in_form (form_of verb) (parts_at (length word + 1) line)) → found ≡ option_map split (fields_in verb line)
fields_found verb line word found is e = e ∙ ap (λ parts. option_map split (in_form (form_of verb) parts)) (fields_behind line word is)

-- no verb has more than three numbers
pub call_three : (verb : Verb) (numbers arcs : List ℕ) → call_by verb (three numbers) arcs ≡ call_by verb numbers arcs
call_three Grant numbers arcs = refl
call_three Claim numbers arcs = refl
call_three Offer numbers arcs = refl
call_three Accept numbers arcs = refl
call_three Decline numbers arcs = refl
call_three Retire numbers arcs = refl
call_three Roll numbers arcs = refl
