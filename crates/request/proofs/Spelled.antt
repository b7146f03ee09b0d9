-- Words as they are written: none has a space or a line feed, and each number and each identifier is read from its text alone.
use Rattle.std.proofs.Common.{◌≡◌, ℕ, ◌^◌, ◌<◌, ◌⊎◌, Bool, true, false, cond, leb, ltb, eqb, List, [], ◌∷◌, ◌++◌, length, find, Some, None, decimal, option_and_then, refl, sym, ap, ◌∙◌, ⊎_elim, arith}
use Rattle.std.specs.Cmp.Lexicographic.{pointwise, same_text}
use Rattle.std.specs.List.{All, before_first, join_with_byte, list_all}
use Rattle.std.specs.Str.{all_ascii_digits}
use Rattle.std.proofs.lemmas.Bool.{and_parts, and_from, both_ways, cases_lt, cond-true, le-leb, leb-true, lt-ltb, ltb-true, ne_eqb, not-true, not_from_false}
use Rattle.std.proofs.lemmas.Fmt.{decimal_nonempty}
use Rattle.std.proofs.lemmas.List.Folds.{list_all-append}
use Rattle.std.proofs.lemmas.List.Splits.{slice_split_none, slice_split_at, length-slice_split}
use Rattle.std.proofs.lemmas.List.Sums.{AllPass-from_list_all}
use Rattle.std.proofs.lemmas.Option.{none-some, same_Some, cond_some, option_and_then_some}
use Rattle.oid.specs.Arcs.{arc_limit, is_arc}
use Rattle.oid.specs.Tree.{all_arcs, is_identifier}
use Rattle.oid.proofs.Arcs.{limit_room}
use Rattle.oid.proofs.Tree.{keeps}
use Rattle.dotted.specs.Form.{is_digit}
use Rattle.dotted.specs.Pieces.{decimal_value, leading_zero, is_numeral, numeral}
use Rattle.dotted.specs.Prefix.{prefix}
use Rattle.dotted.specs.Writing.{dotted_text}
use Rattle.dotted.proofs.Spelling.{digits_of, value_of, unpadded_of, written_again}
use Rattle.dotted.proofs.Texts.{arc_fits, later_arcs}
use Rattle.request.specs.Verbs.{Sort, verbs, verb_text, verb_of}
use Rattle.request.specs.Fields.{space, is_space, words, Part, Field, parts_from, parts_of, in_range, number_in}
use Rattle.request.specs.declared.verb.Verb.{Verb}
use Rattle.request.specs.declared.verb.Verb.TheVariants.{Grant, Claim, Offer, Accept, Decline, Retire, Roll}
use Rattle.request.proofs.Forms.{field}
use Rattle.request.proofs.Numbers.{large}
use Rattle.request.proofs.Walking.{part, next_part}

-- each byte is larger than a space, so that no space and no line feed is among them
abbrev pub visible : List ℕ → Bool
visible word = list_all (λ byte. ltb space byte) word

-- there is no space
pub no_spaces : (word : List ℕ) → visible word ≡ true → All (λ byte. is_space byte ≡ false) word
no_spaces word h k d within =
    ne_eqb _ space (λ e. omega (arith, e, ltb-true space _ (AllPass-from_list_all (λ byte. ltb space byte) word h k d within)))

-- the words of words that were joined
pub words_joined : (word : List ℕ) (others : List (List ℕ)) → list_all visible (word ∷ others) ≡ true
    → words (join_with_byte space (word ∷ others)) ≡ word ∷ others
words_joined word [] h = slice_split_none is_space word (no_spaces word (and_parts (visible word) _ h).0)
words_joined word (next ∷ others) h =
    let parts = and_parts (visible word) _ h in
    slice_split_at is_space word space (join_with_byte space (next ∷ others)) (no_spaces word parts.0) refl
    ∙ ap (λ l. word ∷ l) (words_joined next others parts.1)

-- each line has a first word
pub some_words : (line : List ℕ) → (word : List ℕ) × (others : List (List ℕ)) × (words line ≡ word ∷ others)
some_words line = go (words line) (omega (arith, length-slice_split is_space line))
  where
    go : (list : List (List ℕ)) → 0 < length list → (word : List ℕ) × (others : List (List ℕ)) × (list ≡ word ∷ others)
    go [] h = absurd (omega arith)
    go (word ∷ others) h = (word, others, refl)

-- the text of the first part
first_text : List Part → List ℕ
first_text [] = []
first_text (p ∷ parts) = p.text

-- a line's first word is what stands before any space
pub first_word : (line word : List ℕ) (others : List (List ℕ)) → words line ≡ word ∷ others → before_first is_space line ≡ word
unfolding parts_from first_text
first_word line word others is =
    let first = next_part line 0 (before_first is_space line) (omega arith) refl in
    let start = cond-true (leb 0 (length line)) (parts_of line) [] (le-leb 0 (length line) (omega arith)) in
    ap first_text (sym first ∙ start ∙ ap (parts_from 0) is)

-- digits are visible
digits_visible : (digits : List ℕ) → all_ascii_digits digits ≡ true → visible digits ≡ true
digits_visible [] h = refl
digits_visible (byte ∷ digits) h =
    let parts = and_parts (is_digit byte) (all_ascii_digits digits) h in
    let large = lt-ltb space byte (omega (arith, leb-true 48 byte (and_parts _ _ parts.0).0)) in
    and_from (ltb space byte) _ large (digits_visible digits parts.1)

-- so each number's text is
pub decimal_visible : (n : ℕ) → n < 2 ^ 64 → visible (decimal n) ≡ true
decimal_visible n h = digits_visible (decimal n) (digits_of n h)

-- so are arcs with a dot before each
later_visible : (arcs : List ℕ) → all_arcs arcs ≡ true → visible (later_arcs arcs) ≡ true
unfolding all_arcs
later_visible [] h = refl
later_visible (arc ∷ arcs) h =
    let parts = and_parts (is_arc arc) (all_arcs arcs) h in
    list_all-append (λ byte. ltb space byte) (decimal arc) (later_arcs arcs)
    ∙ and_from (visible (decimal arc)) _ (decimal_visible arc (arc_fits arc parts.0)) (later_visible arcs parts.1)

-- and arcs with dots between them
dotted_visible : (arcs : List ℕ) → all_arcs arcs ≡ true → visible (dotted_text arcs) ≡ true
unfolding dotted_text
dotted_visible [] h = refl
dotted_visible (arc ∷ arcs) h = later_visible (arc ∷ arcs) h

-- what stands before an identifier's text is visible
before_visible : (before : List ℕ) → (before ≡ []) ⊎ (before ≡ prefix) → visible before ≡ true
unfolding prefix
before_visible before h = ⊎_elim (λ e. ap visible e) (λ e. ap visible e) h

-- and so is the identifier's text behind it
pub identifier_visible : (before arcs : List ℕ) → (before ≡ []) ⊎ (before ≡ prefix) → is_identifier arcs ≡ true
    → visible (before ++ dotted_text arcs) ≡ true
identifier_visible before arcs p h =
    list_all-append (λ byte. ltb space byte) before (dotted_text arcs)
    ∙ and_from (visible before) _ (before_visible before p) (dotted_visible arcs (keeps arcs h).each)

-- each verb is
pub verb_visible : (verb : Verb) → visible (verb_text verb) ≡ true
verb_visible Grant = refl
verb_visible Claim = refl
verb_visible Offer = refl
verb_visible Accept = refl
verb_visible Decline = refl
verb_visible Retire = refl
verb_visible Roll = refl

-- each verb is told by its text
pub verb_found : (verb : Verb) → verb_of (verb_text verb) ≡ Some verb
verb_found Grant = refl
verb_found Claim = refl
verb_found Offer = refl
verb_found Accept = refl
verb_found Decline = refl
verb_found Retire = refl
verb_found Roll = refl

-- what is told by a word, among things that each have a text, has the word for its text
pub told_written : {A : Type 0} (text : A → List ℕ) (things : List A) (word : List ℕ) (thing : A)
    → find (λ a. pointwise eqb (text a) word) things ≡ Some thing → text thing ≡ word
told_written text [] word thing is = absurd (none-some _ is)
told_written {A} text (first ∷ things) word thing is = go (test first) refl (told_written text things word thing) is
  where
    test : A → Bool
    test a = pointwise eqb (text a) word

    go : (b : Bool) → test first ≡ b → (find test things ≡ Some thing → text thing ≡ word)
        → cond b (Some first) (find test things) ≡ Some thing → text thing ≡ word
    go true same others e = ap text (sym (same_Some _ _ e)) ∙ same_text (text first) word (sym same)
    go false same others e = others e

-- so a word that is a verb is the verb's text
pub verb_written : (word : List ℕ) (verb : Verb) → verb_of word ≡ Some verb → verb_text verb ≡ word
verb_written word verb is = told_written verb_text verbs word verb is

-- a number in the range of its sort has 64 bits
pub range_fits : (sort : Sort) (number : ℕ) → in_range sort number ≡ true → number < 2 ^ 64
range_fits sort number h =
    ⊎_elim (λ above. absurd (both_ways (in_range sort number) (large sort number above) h)) (λ within. omega (arith, limit_room, within)) (cases_lt arc_limit number)

-- a number of 64 bits is read from its decimal text
pub numeral_read : (number : ℕ) → number < 2 ^ 64 → numeral (decimal number) ≡ Some number
numeral_read number fits =
    let some = lt-ltb 0 (length (decimal number)) (decimal_nonempty number fits) in
    let plain = not_from_false (leading_zero (decimal number)) (unpadded_of number fits) in
    let good : is_numeral (decimal number) ≡ true =
    and_from (ltb 0 (length (decimal number))) _ some (and_from (all_ascii_digits (decimal number)) _ (digits_of number fits) plain) in
    cond-true (is_numeral (decimal number)) _ None good ∙ ap Some (value_of number fits)

-- so is one in the range of its sort, in a field of the sort
pub number_read : (sort : Sort) (offset number : ℕ) → in_range sort number ≡ true
    → number_in (field sort (part offset (decimal number))) ≡ Some number
number_read sort offset number h =
    ap (option_and_then (λ n. cond (in_range sort n) (Some n) None)) (numeral_read number (range_fits sort number h)) ∙ cond-true (in_range sort number) _ None h

-- a text that is read as a number of 64 bits is its decimal text
pub numeral_written : (text : List ℕ) (number : ℕ) → numeral text ≡ Some number → number < 2 ^ 64 → text ≡ decimal number
numeral_written text number is small =
    let value = cond_some (is_numeral text) (decimal_value text) number is in
    let some = and_parts (ltb 0 (length text)) _ value.0 in
    let digits = and_parts (all_ascii_digits text) _ some.1 in
    let fits : decimal_value text < 2 ^ 64 = omega (arith, value.1, small) in
    sym (written_again text digits.0 (ltb-true 0 (length text) some.0) (not-true _ digits.1) fits) ∙ ap decimal value.1

-- so is a field that is read as a number
pub number_written : (f : Field) (number : ℕ) → number_in f ≡ Some number
    → (in_range f.sort number ≡ true) × (f.part.text ≡ decimal number)
number_written f number is =
    option_and_then_some (λ n. cond (in_range f.sort n) (Some n) None) (numeral f.part.text) number is (λ n read e.
    let inside = cond_some (in_range f.sort n) n number e in
    let ranged : in_range f.sort number ≡ true = ap (in_range f.sort) (sym inside.1) ∙ inside.0 in
    (ranged, numeral_written f.part.text number (read ∙ ap Some inside.1) (range_fits f.sort number ranged)))
