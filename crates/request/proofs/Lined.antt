-- The words of a line that is ended by a line feed, whatever follows it.
use Rattle.std.proofs.Common.{◌≡◌, ℕ, ◌<◌, true, not, ltb, eqb, List, [], ◌∷◌, ◌++◌, refl, ap, ◌∙◌, append_assoc, append-nil, arith}
use Rattle.std.specs.List.{before_first, list_all}
use Rattle.std.proofs.lemmas.Bool.{and_parts, cond-true, ltb-true, ne_eqb, not_from_false}
use Rattle.std.proofs.lemmas.List.Splits.{slice_split_none, slice_split_at}
use Rattle.std.proofs.lemmas.List.Sums.{take_while-cons}
use Rattle.request.specs.Answers.{feed, text_line}
use Rattle.request.specs.Fields.{space, is_space, words}
use Rattle.request.specs.ReadBack.{first_words}
use Rattle.request.proofs.Spelled.{visible, no_spaces}

-- what stands before the first line feed
abbrev front : List ℕ → List ℕ
front bytes = before_first (λ byte. eqb byte feed) bytes

-- a byte that is larger than a line feed is the first of it
front_more : (byte : ℕ) (bytes : List ℕ) → feed < byte → front (byte ∷ bytes) ≡ byte ∷ front bytes
front_more byte bytes h =
    take_while-cons (λ b. not (eqb b feed)) byte bytes
    ∙ cond-true (not (eqb byte feed)) _ _ (not_from_false (eqb byte feed) (ne_eqb byte feed (λ e. omega (arith, e, h))))

-- and so is a word
front_word : (word bytes : List ℕ) → visible word ≡ true → front (word ++ bytes) ≡ word ++ front bytes
front_word [] bytes h = refl
front_word (byte ∷ word) bytes h =
    let parts = and_parts (ltb space byte) (visible word) h in
    front_more byte (word ++ bytes) (omega (arith, ltb-true space byte parts.0)) ∙ ap (λ l. byte ∷ l) (front_word word bytes parts.1)

-- a word with a space behind it is the first of the words
pub next_word : (word bytes : List ℕ) → visible word ≡ true → first_words (word ++ space ∷ bytes) ≡ word ∷ first_words bytes
next_word word bytes h =
    ap words (front_word word (space ∷ bytes) h ∙ ap (λ l. word ++ l) (front_more space bytes (omega arith)))
    ∙ slice_split_at is_space word space (front bytes) (no_spaces word h) refl

-- and with a line feed behind it the only one
last_word : (word bytes : List ℕ) → visible word ≡ true → first_words (word ++ feed ∷ bytes) ≡ word ∷ []
last_word word bytes h = ap words (front_word word (feed ∷ bytes) h ∙ append-nil word) ∙ slice_split_none is_space word (no_spaces word h)

-- so the words of a line are those that it was written of
pub lined : (word : List ℕ) (others : List (List ℕ)) (bytes : List ℕ) → list_all visible (word ∷ others) ≡ true
    → first_words (text_line (word ∷ others) ++ bytes) ≡ word ∷ others
lined word [] bytes h = ap first_words (append_assoc word (feed ∷ []) bytes) ∙ last_word word bytes (and_parts (visible word) _ h).0
lined word (next ∷ others) bytes h =
    let parts = and_parts (visible word) _ h in
    ap first_words (append_assoc word (space ∷ text_line (next ∷ others)) bytes)
    ∙ next_word word (text_line (next ∷ others) ++ bytes) parts.0
    ∙ ap (λ l. word ∷ l) (lined next others bytes parts.1)
