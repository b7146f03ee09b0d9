-- Two lines that are read as one call are equal but for their identifiers' prefix.
use Rattle.std.proofs.Common.{◌≡◌, ℕ, ◌⊎◌, true, false, List, [], ◌∷◌, ◌++◌, map, length, drop, Ok, decimal, refl, sym, ap, ◌∙◌, ⊎_elim, append_assoc, append-nil}
use Rattle.std.specs.List.{join_with_byte}
use Rattle.std.proofs.lemmas.Bool.{both_ways, cond-true}
use Rattle.std.proofs.Math.Seq.{drop-append_seam, take-append_seam}
use Rattle.oid.specs.Tree.{begins_with, is_identifier}
use Rattle.oid.proofs.Tree.{front_begins}
use Rattle.dotted.specs.Form.{begins_with_digit}
use Rattle.dotted.specs.Prefix.{prefix, prefix_length}
use Rattle.dotted.specs.Writing.{dotted_text}
use Rattle.dotted.proofs.Theorems.{no_prefix, text_begins}
use Rattle.request.specs.Fields.{space}
use Rattle.request.specs.Lines.{identifier_of, line_of, unprefixed, EqualButPrefix}
use Rattle.request.specs.Reading.{Reading, call_by, read_line}
use Rattle.request.specs.Verbs.{verb_text}
use Rattle.request.specs.declared.verb.Verb.{Verb}
use Rattle.request.proofs.Wording.{front_with, words_with, LineWith, words_made, identifier_made}
use Rattle.request.proofs.ToWords.{Found, read_written}

-- what stands behind a word: the other words, with a space before each
abbrev behind : List (List ℕ) → List ℕ
behind [] = []
behind (word ∷ others) = space ∷ join_with_byte space (word ∷ others)

-- a line is its first word and what stands behind that
joined : (word : List ℕ) (others : List (List ℕ)) → join_with_byte space (word ∷ others) ≡ word ++ behind others
joined word [] = sym (append-nil word)
joined word (next ∷ others) = refl

-- a line is what stands before its third word, the word, and what stands behind it
parted : (verb digits text : List ℕ) (others : List (List ℕ))
    → join_with_byte space (verb ∷ digits ∷ text ∷ others) ≡ (join_with_byte space (verb ∷ digits ∷ []) ++ space ∷ []) ++ (text ++ behind others)
parted verb digits text others =
    let rest = text ++ behind others in
    ap (λ l. verb ++ space ∷ (digits ++ space ∷ l)) (joined text others)
    ∙ sym (append_assoc verb (space ∷ digits) (space ∷ rest))
    ∙ sym (append_assoc (verb ++ space ∷ digits) (space ∷ []) rest)

-- what begins with a digit does so with more behind it
begins_more : (text rest : List ℕ) → begins_with_digit text ≡ true → begins_with_digit (text ++ rest) ≡ true
begins_more [] rest h = absurd (both_ways false refl h)
begins_more (byte ∷ text) rest h = h

-- the prefix of an identifier's text is what was put before it, whatever follows
prefix_found : (before arcs rest : List ℕ) → (before ≡ []) ⊎ (before ≡ prefix) → is_identifier arcs ≡ true
    → prefix_length ((before ++ dotted_text arcs) ++ rest) ≡ length before
unfolding prefix_length
prefix_found before arcs rest p h = ⊎_elim without with_prefix p
  where
    text : List ℕ
    text = dotted_text arcs

    without : before ≡ [] → prefix_length ((before ++ text) ++ rest) ≡ length before
    without e =
        ap (λ l. prefix_length ((l ++ text) ++ rest)) e ∙ no_prefix (text ++ rest) (begins_more text rest (text_begins arcs h)) ∙ sym (ap length e)

    with_prefix : before ≡ prefix → prefix_length ((before ++ text) ++ rest) ≡ length before
    with_prefix e =
        ap (λ l. prefix_length ((l ++ text) ++ rest)) e ∙ ap prefix_length (append_assoc prefix text rest)
        ∙ cond-true (begins_with (prefix ++ (text ++ rest)) prefix) _ _ (front_begins prefix (text ++ rest))
        ∙ sym (ap length e)

-- a line that is written with a prefix or without is the line without
without_prefix : (line : List ℕ) (verb : Verb) (holder : ℕ) (before arcs numbers : List ℕ) → LineWith line verb holder before arcs numbers
    → unprefixed (length (front_with verb holder)) line ≡ join_with_byte space (words_with verb holder (dotted_text arcs) numbers)
without_prefix line verb holder before arcs numbers w =
    ap (unprefixed (length front)) (w.written ∙ parted (verb_text verb) (decimal holder) (before ++ text) (map decimal numbers))
    ∙ (λ k. take-append_seam front whole k ++ drop (prefix_length (drop-append_seam front whole k)) (drop-append_seam front whole k))
    ∙ ap (λ n. front ++ drop n whole) (prefix_found before arcs rest w.prefixed w.named)
    ∙ ap (λ l. front ++ drop (length before) l) (append_assoc before text rest)
    ∙ ap (λ l. front ++ l) (drop-append_seam before (text ++ rest))
    ∙ sym (parted (verb_text verb) (decimal holder) text (map decimal numbers))
  where
    front : List ℕ
    front = front_with verb holder

    text : List ℕ
    text = dotted_text arcs

    rest : List ℕ
    rest = behind (map decimal numbers)

    whole : List ℕ
    whole = (before ++ text) ++ rest

-- and that line is its call's
unprefixed_is : (line : List ℕ) (reading : Reading) → read_line line ≡ Ok reading
    → unprefixed reading.offset line ≡ line_of reading.call (dotted_text (identifier_of reading.call))
unprefixed_is line reading is = go reading (read_written line reading is)
  where
    go : (r : Reading) → Found line r → unprefixed r.offset line ≡ line_of r.call (dotted_text (identifier_of r.call))
    go r f =
        let call = call_by f.verb (f.holder ∷ f.numbers) f.arcs in
        let named = identifier_made f.verb (f.holder ∷ f.numbers) f.arcs in
        ap (λ s. unprefixed s.offset line) f.same
        ∙ without_prefix line f.verb f.holder f.before f.arcs f.numbers f.is_written
        ∙ ap (join_with_byte space) (sym (words_made f.verb f.holder f.arcs (dotted_text f.arcs) f.numbers f.is_written.ranged))
        ∙ ap (λ l. line_of call (dotted_text l)) (sym named)
        ∙ ap (λ s. line_of s.call (dotted_text (identifier_of s.call))) (sym f.same)

-- so the lines of one call are equal, once they are without it
pub equal_but_prefix : EqualButPrefix
equal_but_prefix one other reading another r s same =
    unprefixed_is one reading r
    ∙ ap (λ call. line_of call (dotted_text (identifier_of call))) same
    ∙ sym (unprefixed_is other another s)
