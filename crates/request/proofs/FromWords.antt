-- A line that is written of a verb, of numbers and of an identifier is read as their call.
use Rattle.std.proofs.Common.{◌≡◌, ℕ, ◌+◌, ◌<◌, ◌⊎◌, true, false, not, ltb, List, [], ◌∷◌, ◌++◌, map, length, drop, Some, None, Ok, decimal, option_map, refl, ap, ◌∙◌, ⊎_elim, arith}
use Rattle.std.specs.List.{list_all}
use Rattle.std.specs.Result.{result_map_both}
use Rattle.std.proofs.lemmas.Bool.{and_from, both_ways, cond-true, lt-ltb}
use Rattle.std.proofs.lemmas.Fmt.{decimal_nonempty}
use Rattle.std.proofs.lemmas.List.{length-append}
use Rattle.oid.specs.Tree.{is_identifier}
use Rattle.dotted.specs.Form.{begins_with_digit}
use Rattle.dotted.specs.Prefix.{prefix}
use Rattle.dotted.specs.Reading.{read_dotted}
use Rattle.dotted.specs.Writing.{dotted_text}
use Rattle.dotted.proofs.Theorems.{no_prefix, prefix_moves_faults, reads_back, text_begins}
use Rattle.request.specs.Fields.{words, Part, Field, parts_from, in_form, in_range, is_identifier_sort, number_fields, number_in, identifier_part}
use Rattle.request.specs.Reading.{call_by, verb_in, fields_in, numbers_in, identifier_in, fault_in, read_line}
use Rattle.request.specs.Refusals.{fault_at, there_is, and_then}
use Rattle.request.specs.Verbs.{Sort, a_holder, an_identifier, an_arc, a_quota, form_of, verb_text, verb_of}
use Rattle.request.specs.declared.refusal.LineRefusal.TheVariants.{NotANumber}
use Rattle.request.specs.declared.refusal.Refusal.TheVariants.{Line}
use Rattle.request.specs.declared.verb.Verb.{Verb}
use Rattle.request.proofs.Asking.{all_read}
use Rattle.request.proofs.Forms.{field, first_two}
use Rattle.request.proofs.Walking.{part}
use Rattle.request.proofs.Spelled.{visible, words_joined, first_word, decimal_visible, identifier_visible, verb_visible, verb_found, range_fits, number_read}
use Rattle.request.proofs.Wording.{InRanges, none, one_more, words_with, reading_with, LineWith, front_long}

-- Parts that are fields as a form wants them, all of them number fields, and read as these numbers.
record Numbered (form : List Sort) (parts : List Part) (numbers : List ℕ) : Type 0 where
  fields : List Field
  there : in_form form parts ≡ Some fields
  all : number_fields fields ≡ fields
  read : numbers_in fields ≡ Ok numbers

-- a sort whose range has a number is no identifier's
number_sort : (sort : Sort) (number : ℕ) → in_range sort number ≡ true → not (is_identifier_sort sort) ≡ true
number_sort a_holder number h = refl
number_sort an_identifier number h = h
number_sort an_arc number h = refl
number_sort a_quota number h = refl

-- a word that is not empty is the next field
in_form_more : (sort : Sort) (form : List Sort) (offset : ℕ) (text : List ℕ) (others : List (List ℕ)) (fields : List Field) → 0 < length text
    → in_form form (parts_from (offset + length text + 1) others) ≡ Some fields
    → in_form (sort ∷ form) (parts_from offset (text ∷ others)) ≡ Some (field sort (part offset text) ∷ fields)
unfolding in_form parts_from
in_form_more sort form offset text others fields some is =
    cond-true (ltb 0 (length text)) _ None (lt-ltb 0 (length text) some) ∙ ap (option_map (λ l. field sort (part offset text) ∷ l)) is

-- and its number the next number
numbers_more : (sort : Sort) (offset number : ℕ) (fields : List Field) (numbers : List ℕ) → in_range sort number ≡ true → numbers_in fields ≡ Ok numbers
    → numbers_in (field sort (part offset (decimal number)) ∷ fields) ≡ Ok (number ∷ numbers)
numbers_more sort offset number fields numbers r is =
    let here = there_is (fault_at (Line NotANumber) offset) (number_in (field sort (part offset (decimal number)))) (λ n. Ok n) in
    let read : here ≡ Ok number = ap (λ o. there_is (fault_at (Line NotANumber) offset) o (λ n. Ok n)) (number_read sort offset number r) in
    ap (λ o. and_then o (λ n. and_then (numbers_in fields) (λ l. Ok (n ∷ l)))) read ∙ ap (λ o. and_then o (λ l. Ok (number ∷ l))) is

-- numbers in the ranges of a form, written one after the other, are such fields
numbered : (form : List Sort) (numbers : List ℕ) (offset : ℕ) → InRanges form numbers → Numbered form (parts_from offset (map decimal numbers)) numbers
unfolding in_form parts_from
numbered _ _ offset none = record { fields = []; there = refl; all = refl; read = refl }
numbered _ _ offset (one_more {sort} {form} {number} {numbers} r more) =
    let place = part offset (decimal number) in
    let others = numbered form numbers (offset + length (decimal number) + 1) more in
    let some = decimal_nonempty number (range_fits sort number r) in
    record {
      fields = field sort place ∷ others.fields;
      there = in_form_more sort form offset (decimal number) (map decimal numbers) others.fields some others.there;
      all = cond-true (not (is_identifier_sort sort)) _ _ (number_sort sort number r) ∙ ap (λ l. field sort place ∷ l) others.all;
      read = numbers_more sort offset number others.fields numbers r others.read;
    }

-- an identifier is read from its text, be the prefix before it or not
pub identifier_read : (before arcs : List ℕ) → (before ≡ []) ⊎ (before ≡ prefix) → is_identifier arcs ≡ true
    → read_dotted (before ++ dotted_text arcs) ≡ Ok arcs
identifier_read before arcs p h =
    let text = dotted_text arcs in
    ⊎_elim
    (λ e. ap (λ l. read_dotted (l ++ text)) e ∙ reads_back arcs h)
    (λ e. ap (λ l. read_dotted (l ++ text)) e ∙ prefix_moves_faults text (no_prefix text (text_begins arcs h)) ∙ ap (result_map_both (λ l. l) _) (reads_back arcs h))
    p

-- an identifier's text is not empty, since it begins with a digit
identifier_some : (before arcs : List ℕ) → is_identifier arcs ≡ true → 0 < length (before ++ dotted_text arcs)
identifier_some before arcs h = omega (arith, length-append before (dotted_text arcs), go (dotted_text arcs) (text_begins arcs h))
  where
    go : (text : List ℕ) → begins_with_digit text ≡ true → 0 < length text
    go [] e = absurd (both_ways false refl e)
    go (byte ∷ text) e = omega arith

-- each number's text is visible
all_visible : (form : List Sort) (numbers : List ℕ) → InRanges form numbers → list_all visible (map decimal numbers) ≡ true
all_visible _ _ none = refl
all_visible _ _ (one_more {sort} {form} {number} {numbers} r more) =
    and_from (visible (decimal number)) _ (decimal_visible number (range_fits sort number r)) (all_visible form numbers more)

-- a line that is written so
module _ (line : List ℕ) (verb : Verb) (holder : ℕ) (before arcs numbers : List ℕ) (w : LineWith line verb holder before arcs numbers) where
  -- the text of the identifier's field
  text : List ℕ
  text = before ++ dotted_text arcs

  -- its words
  words_are : words line ≡ words_with verb holder text numbers
  unfolding text
  words_are =
      ap words w.written
      ∙ words_joined (verb_text verb) (decimal holder ∷ text ∷ map decimal numbers)
      (and_from (visible (verb_text verb)) _ (verb_visible verb)
      (and_from (visible (decimal holder)) _ (decimal_visible holder (range_fits a_holder holder w.holds))
      (and_from (visible text) _ (identifier_visible before arcs w.prefixed w.named) (all_visible (drop 2 (form_of verb)) numbers w.ranged))))

  -- the verb is the first of them
  verb_is : verb_in line ≡ Some verb
  verb_is = ap verb_of (first_word line (verb_text verb) _ words_are) ∙ verb_found verb

  -- where the number behind the verb begins, and where the identifier
  first : ℕ
  first = length (verb_text verb) + 1

  second : ℕ
  second = first + length (decimal holder) + 1

  -- the fields behind the identifier's
  more : Numbered (drop 2 (form_of verb)) (parts_from (second + length text + 1) (map decimal numbers)) numbers
  more = numbered (drop 2 (form_of verb)) numbers (second + length text + 1) w.ranged

  -- all fields, the numbers in them, and the identifier
  fields : List Field
  fields = field a_holder (part first (decimal holder)) ∷ field an_identifier (part second text) ∷ more.fields

  fields_are : fields_in verb line ≡ Some fields
  unfolding fields text second first parts_from
  fields_are =
      ap (λ l. in_form (form_of verb) (drop 1 (parts_from 0 l))) words_are
      ∙ (λ k. in_form (first_two verb k) (parts_from (start k) (decimal holder ∷ text ∷ map decimal numbers)))
      ∙ in_form_more a_holder (an_identifier ∷ drop 2 (form_of verb)) first (decimal holder) (text ∷ map decimal numbers) _
      (decimal_nonempty holder (range_fits a_holder holder w.holds))
      (in_form_more an_identifier (drop 2 (form_of verb)) second text (map decimal numbers) _ (identifier_some before arcs w.named) more.there)
    where
      start : 0 + length (verb_text verb) + 1 ≡ first
      start = omega arith

  numbers_are : numbers_in (number_fields fields) ≡ Ok (holder ∷ numbers)
  unfolding fields
  numbers_are =
      ap (λ l. numbers_in (field a_holder (part first (decimal holder)) ∷ l)) more.all ∙ numbers_more a_holder first holder more.fields numbers w.holds more.read

  arcs_are : identifier_in (identifier_part fields) ≡ Ok arcs
  unfolding fields text
  arcs_are = ap (result_map_both (λ l. l) (fault_in (part second text))) (identifier_read before arcs w.prefixed w.named)

  -- it is read so
  pub written_read : read_line line ≡ Ok (reading_with verb holder arcs numbers)
  unfolding fields second first
  written_read =
      all_read line w.sized verb verb_is fields fields_are (holder ∷ numbers) numbers_are arcs arcs_are
      ∙ ap (λ n. Ok (record { call = call_by verb (holder ∷ numbers) arcs; offset = n })) (front_long verb holder)
