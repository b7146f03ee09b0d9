-- A line that is read as a call is written of the call's verb, numbers and identifier.
use Rattle.std.proofs.Common.{◌≡◌, ℕ, ◌+◌, ◌⊎◌, inl, inr, Bool, true, false, cond, not, ltb, List, [], ◌∷◌, ◌++◌, map, length, drop, Some, None, Ok, Err, Option, Result, decimal, option_map, refl, sym, ap, ◌∙◌, subst, arith}
use Rattle.std.specs.List.{join_with_byte, list_all}
use Rattle.std.specs.Result.{result_map_both}
use Rattle.std.proofs.lemmas.List.Splits.{join_with_byte-slice_split}
use Rattle.std.proofs.lemmas.Option.{none-some, same_Some}
use Rattle.oid.specs.Tree.{begins_with, is_identifier}
use Rattle.oid.specs.declared.refusal.Fault as oid
use Rattle.oid.proofs.Tree.{begins_front}
use Rattle.dotted.specs.Laws.{Writes}
use Rattle.dotted.specs.Prefix.{prefix, prefix_length}
use Rattle.dotted.specs.Reading.{read_dotted}
use Rattle.dotted.specs.Writing.{dotted_text}
use Rattle.dotted.proofs.Theorems.{accepts}
use Rattle.book.specs.Ranges.{is_holder}
use Rattle.request.specs.Fields.{space, words, Part, Field, parts_from, in_form, is_identifier_sort, number_fields, number_in, identifier_part}
use Rattle.request.specs.Limits.{is_line}
use Rattle.request.specs.Reading.{Reading, call_by, verb_in, fields_in, numbers_in, number_at, identifier_in, fault_in, read_line}
use Rattle.request.specs.Refusals.{fault_at, ask, there_is, and_then}
use Rattle.request.specs.Verbs.{Sort, a_holder, an_identifier, form_of, verb_text, verb_of}
use Rattle.request.specs.declared.refusal.Fault.{Fault}
use Rattle.request.specs.declared.refusal.LineRefusal.TheVariants.{LineLength, UnknownVerb, WrongFields, NotANumber}
use Rattle.request.specs.declared.refusal.Refusal.TheVariants.{Line}
use Rattle.request.specs.declared.verb.Verb.{Verb}
use Rattle.request.proofs.Forms.{field, sorts, all_numbers, no_more, first_two}
use Rattle.request.proofs.Walking.{part}
use Rattle.request.proofs.Spelled.{some_words, first_word, verb_written, number_written}
use Rattle.request.proofs.Wording.{InRanges, none, one_more, front_with, words_with, reading_with, LineWith, front_long}

-- what a reading that ended well came through: a yes,
asked : {A : Type 0} (fault : Fault) (v : Bool) (others : Result A Fault) (value : A) → ask fault v others ≡ Ok value → (v ≡ true) × (others ≡ Ok value)
asked fault true others value is = (refl, is)
asked fault false others value is = absurd (cc)

-- something that was there,
there : {A B : Type 0} (fault : Fault) (found : Option A) (others : A → Result B Fault) (value : B) → there_is fault found others ≡ Ok value
    → (thing : A) × (found ≡ Some thing) × (others thing ≡ Ok value)
there fault None others value is = absurd (cc)
there fault (Some thing) others value is = (thing, refl, is)

-- and something that was read
came : {A B : Type 0} (found : Result A Fault) (others : A → Result B Fault) (value : B) → and_then found others ≡ Ok value
    → (thing : A) × (found ≡ Ok thing) × (others thing ≡ Ok value)
came (Ok thing) others value is = (thing, refl, is)
came (Err fault) others value is = absurd (cc)

-- what was read is one thing
same_ok : {A : Type 0} (one other : A) → ◌≡◌ {A = Result A Fault} (Ok one) (Ok other) → one ≡ other
same_ok one other is = cc

-- The first field of a form, and the others.
record Filled (sort : Sort) (form : List Sort) (offset : ℕ) (texts : List (List ℕ)) (fields : List Field) : Type 0 where
  text : List ℕ
  others : List (List ℕ)
  more : List Field
  texts_are : texts ≡ text ∷ others
  fields_are : fields ≡ field sort (part offset text) ∷ more
  more_are : in_form form (parts_from (offset + length text + 1) others) ≡ Some more

-- words that fill a form fill its first field
filled : (sort : Sort) (form : List Sort) (offset : ℕ) (texts : List (List ℕ)) (fields : List Field)
    → in_form (sort ∷ form) (parts_from offset texts) ≡ Some fields → Filled sort form offset texts fields
unfolding in_form parts_from
filled sort form offset [] fields is = absurd (none-some _ is)
filled sort form offset (text ∷ others) fields is = go (ltb 0 (length text)) (in_form form (parts_from (offset + length text + 1) others)) refl is
  where
    go : (v : Bool) (found : Option (List Field)) → in_form form (parts_from (offset + length text + 1) others) ≡ found
        → cond v (option_map (λ l. field sort (part offset text) ∷ l) found) None ≡ Some fields → Filled sort form offset (text ∷ others) fields
    go false found same e = absurd (none-some _ e)
    go true None same e = absurd (none-some _ e)
    go true (Some more) same e = record {
      text = text;
      others = others;
      more = more;
      texts_are = refl;
      fields_are = sym (same_Some _ _ e);
      more_are = same;
    }

-- the texts of the fields are the words
texts_of : (form : List Sort) (offset : ℕ) (texts : List (List ℕ)) (fields : List Field) → in_form form (parts_from offset texts) ≡ Some fields
    → map (λ f. f.part.text) fields ≡ texts
unfolding in_form parts_from
texts_of [] offset [] fields is = ap (map (λ f. f.part.text)) (sym (same_Some _ _ is))
texts_of [] offset (text ∷ others) fields is = absurd (none-some _ is)
texts_of (sort ∷ form) offset texts fields is =
    let f = filled sort form offset texts fields is in
    ap (map (λ g. g.part.text)) f.fields_are
    ∙ ap (λ l. f.text ∷ l) (texts_of form (offset + length f.text + 1) f.others f.more f.more_are)
    ∙ sym f.texts_are

-- number fields have the text of the numbers that they are read as
numbers_written : (fields : List Field) (numbers : List ℕ) → numbers_in fields ≡ Ok numbers
    → InRanges (map (λ f. f.sort) fields) numbers × (map (λ f. f.part.text) fields ≡ map decimal numbers)
numbers_written [] numbers is =
    let same = same_ok _ _ is in
    (subst (InRanges []) same none, ap (map decimal) same)
numbers_written (f ∷ fields) numbers is =
    let first = came (number_at f) _ numbers is in
    let here = there (fault_at (Line NotANumber) f.part.offset) (number_in f) (λ n. Ok n) first.0 first.1 in
    let number : number_in f ≡ Some first.0 = here.1 ∙ ap Some (same_ok _ _ here.2) in
    let others = came (numbers_in fields) _ numbers first.2 in
    let rest = numbers_written fields others.0 others.1 in
    let same : first.0 ∷ others.0 ≡ numbers = same_ok _ _ others.2 in
    let one = number_written f first.0 number in
    (subst (InRanges (f.sort ∷ map (λ g. g.sort) fields)) same (one_more one.0 rest.0), (λ k. one.1 k ∷ rest.1 k) ∙ ap (map decimal) same)

-- what is read as an identifier is the identifier's text, with the prefix before it or without
pub identifier_written : (text arcs : List ℕ) → read_dotted text ≡ Ok arcs
    → (is_identifier arcs ≡ true) × ((before : List ℕ) × ((before ≡ []) ⊎ (before ≡ prefix)) × (text ≡ before ++ dotted_text arcs))
unfolding prefix_length
identifier_written text arcs is = (writes.0, go (begins_with text prefix) refl writes.1)
  where
    writes : Writes text arcs
    writes = (accepts text arcs).0 is

    go : (v : Bool) → begins_with text prefix ≡ v → drop (cond v (length prefix) 0) text ≡ dotted_text arcs
        → (before : List ℕ) × ((before ≡ []) ⊎ (before ≡ prefix)) × (text ≡ before ++ dotted_text arcs)
    go true same e = (prefix, inr refl, begins_front text prefix same ∙ ap (λ l. prefix ++ l) e)
    go false same e = ([], inl refl, e)

-- an identifier that is read of a part is read of its text
mapped_ok : (place : Part) (found : Result (List ℕ) oid.Fault) (arcs : List ℕ) → result_map_both (λ l. l) (fault_in place) found ≡ Ok arcs → found ≡ Ok arcs
mapped_ok place (Ok found) arcs is = cc
mapped_ok place (Err fault) arcs is = absurd (cc)

-- the holder is the first of the numbers
holder_first : (form : List Sort) (all : List ℕ) → InRanges (a_holder ∷ form) all
    → (holder : ℕ) × (numbers : List ℕ) × (all ≡ holder ∷ numbers) × (is_holder holder ≡ true) × InRanges form numbers
holder_first _ _ (one_more {sort} {form} {number} {numbers} r more) = (number, numbers, refl, r, more)

-- What the questions found in a line that is read.
record Answered (line : List ℕ) (reading : Reading) : Type 0 where
  sized : is_line line ≡ true
  verb : Verb
  verb_is : verb_in line ≡ Some verb
  fields : List Field
  fields_are : fields_in verb line ≡ Some fields
  numbers : List ℕ
  numbers_are : numbers_in (number_fields fields) ≡ Ok numbers
  arcs : List ℕ
  arcs_are : identifier_in (identifier_part fields) ≡ Ok arcs
  same : record { call = call_by verb numbers arcs; offset = (identifier_part fields).offset } ≡ reading

-- a line that is read came through all questions
answered : (line : List ℕ) (reading : Reading) → read_line line ≡ Ok reading → Answered line reading
unfolding read_line
answered line reading is =
    let sized = asked (fault_at (Line LineLength) 0) (is_line line) _ reading is in
    let verb = there (fault_at (Line UnknownVerb) 0) (verb_in line) _ reading sized.1 in
    let fields = there (fault_at (Line WrongFields) 0) (fields_in verb.0 line) _ reading verb.2 in
    let numbers = came (numbers_in (number_fields fields.0)) _ reading fields.2 in
    let arcs = came (identifier_in (identifier_part fields.0)) _ reading numbers.2 in
    record {
      sized = sized.0;
      verb = verb.0;
      verb_is = verb.1;
      fields = fields.0;
      fields_are = fields.1;
      numbers = numbers.0;
      numbers_are = numbers.1;
      arcs = arcs.0;
      arcs_are = arcs.1;
      same = same_ok _ _ arcs.2;
    }

-- What a line that is read is written with.
pub record Found (line : List ℕ) (reading : Reading) : Type 0 where
  pub verb : Verb
  pub holder : ℕ
  pub before : List ℕ
  pub arcs : List ℕ
  pub numbers : List ℕ
  pub is_written : LineWith line verb holder before arcs numbers
  pub same : reading ≡ reading_with verb holder arcs numbers

-- a line that came through them
module _ (line : List ℕ) (reading : Reading) (a : Answered line reading) where
  -- the sorts behind the identifier's
  abbrev form_behind : List Sort
  form_behind = drop 2 (form_of a.verb)

  -- its first word is the verb
  word : (first : List ℕ) × (others : List (List ℕ)) × (words line ≡ first ∷ others)
  word = some_words line

  word_is : word.0 ≡ verb_text a.verb
  word_is = sym (verb_written word.0 a.verb (ap verb_of (sym (first_word line word.0 word.1 word.2)) ∙ a.verb_is))

  -- where the caller's field begins
  abbrev caller_at : ℕ
  caller_at = 0 + length word.0 + 1

  -- the words behind the verb fill the form
  by_form : in_form (a_holder ∷ an_identifier ∷ form_behind) (parts_from caller_at word.1) ≡ Some a.fields
  unfolding parts_from
  by_form =
      ap (λ form. in_form form (parts_from caller_at word.1)) (sym (first_two a.verb))
      ∙ ap (λ l. in_form (form_of a.verb) (drop 1 (parts_from 0 l))) (sym word.2)
      ∙ a.fields_are

  -- the caller's field
  caller : Filled a_holder (an_identifier ∷ form_behind) caller_at word.1 a.fields
  caller = filled a_holder (an_identifier ∷ form_behind) caller_at word.1 a.fields by_form

  -- where the identifier's field begins, and that field
  abbrev identifier_at : ℕ
  identifier_at = caller_at + length caller.text + 1

  identifier : Filled an_identifier form_behind identifier_at caller.others caller.more
  identifier = filled an_identifier form_behind identifier_at caller.others caller.more caller.more_are

  -- all fields
  abbrev caller_field : Field
  caller_field = field a_holder (part caller_at caller.text)

  all_fields : a.fields ≡ caller_field ∷ field an_identifier (part identifier_at identifier.text) ∷ identifier.more
  all_fields = caller.fields_are ∙ ap (λ l. caller_field ∷ l) identifier.fields_are

  -- those behind the identifier's
  more_sorts : map (λ f. f.sort) identifier.more ≡ form_behind
  more_sorts = sorts form_behind (parts_from (identifier_at + length identifier.text + 1) identifier.others) identifier.more identifier.more_are

  more_texts : map (λ f. f.part.text) identifier.more ≡ identifier.others
  more_texts = texts_of form_behind (identifier_at + length identifier.text + 1) identifier.others identifier.more identifier.more_are

  -- all fields but the identifier's are number fields
  number_fields_are : number_fields a.fields ≡ caller_field ∷ identifier.more
  number_fields_are =
      ap number_fields all_fields
      ∙ ap (λ l. caller_field ∷ l) (all_numbers identifier.more (ap (list_all (λ sort. not (is_identifier_sort sort))) more_sorts ∙ no_more a.verb))

  -- the numbers in them
  numbers : InRanges (a_holder ∷ map (λ f. f.sort) identifier.more) a.numbers × (caller.text ∷ map (λ f. f.part.text) identifier.more ≡ map decimal a.numbers)
  numbers = numbers_written (caller_field ∷ identifier.more) a.numbers (ap numbers_in (sym number_fields_are) ∙ a.numbers_are)

  holder : (first : ℕ) × (others : List ℕ) × (a.numbers ≡ first ∷ others) × (is_holder first ≡ true) × InRanges (map (λ f. f.sort) identifier.more) others
  holder = holder_first (map (λ f. f.sort) identifier.more) a.numbers numbers.0

  -- the text of each field
  caller_text : caller.text ≡ decimal holder.0
  caller_text = cc (numbers.1, holder.2)

  other_texts : identifier.others ≡ map decimal holder.1
  other_texts = cc (numbers.1, holder.2, more_texts)

  identifier_text : (is_identifier a.arcs ≡ true)
      × ((before : List ℕ) × ((before ≡ []) ⊎ (before ≡ prefix)) × (identifier.text ≡ before ++ dotted_text a.arcs))
  identifier_text =
      identifier_written identifier.text a.arcs
      (mapped_ok (part identifier_at identifier.text) (read_dotted identifier.text) a.arcs
      (ap (λ l. identifier_in (identifier_part l)) (sym all_fields) ∙ a.arcs_are))

  -- so these are the words of the line
  words_are : words line ≡ words_with a.verb holder.0 (identifier_text.1.0 ++ dotted_text a.arcs) holder.1
  words_are = cc (word.2, word_is, caller.texts_are, caller_text, identifier.texts_are, identifier_text.1.2, other_texts)

  -- and this is how many bytes stand before the identifier
  offset_is : (identifier_part a.fields).offset ≡ length (front_with a.verb holder.0)
  offset_is =
      ap (λ l. (identifier_part l).offset) all_fields
      ∙ omega (arith, ap length word_is, ap length caller_text, front_long a.verb holder.0)

  -- it is written so
  found : Found line reading
  found = record {
    verb = a.verb;
    holder = holder.0;
    before = identifier_text.1.0;
    arcs = a.arcs;
    numbers = holder.1;
    is_written = record {
      sized = a.sized;
      holds = holder.3;
      named = identifier_text.0;
      ranged = subst (λ form. InRanges form holder.1) more_sorts holder.4;
      prefixed = identifier_text.1.1;
      written = sym (join_with_byte-slice_split space line) ∙ ap (join_with_byte space) words_are;
    };
    same = sym a.same ∙ (λ k. record { call = call_by a.verb (holder.2 k) a.arcs; offset = offset_is k });
  }

-- a line that is read is written with all that it is read as
pub read_written : (line : List ℕ) (reading : Reading) → read_line line ≡ Ok reading → Found line reading
read_written line reading is = found line reading (answered line reading is)
