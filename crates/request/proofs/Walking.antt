-- The walk over a line from part to part.
use Rattle.std.proofs.Common.{◌≡◌, ℕ, ◌+◌, ◌<◌, ◌≤◌, false, cond, not, leb, ltb, eqb, List, [], ◌∷◌, length, drop, sym, ap, ◌∙◌, ⊎_elim, arith}
use Rattle.std.specs.List.{before_first, position_or_len}
use Rattle.std.proofs.lemmas.Bool.{cases_lt, cond-true, cond-false, le-leb, lt-leb, lt-ltb, le-ltb, ne_eqb}
use Rattle.std.proofs.lemmas.List.{drop-drop, length-drop, take_all}
use Rattle.std.proofs.lemmas.List.Folds.{length-prefix_len}
use Rattle.std.proofs.lemmas.List.Sums.{prefix_len-le-length, fails_before_first}
use Rattle.std.proofs.lemmas.List.Splits.{slice_split_first, slice_split_none, length-slice_split}
use Rattle.request.specs.Fields.{is_space, words, Part, parts_from}

-- the parts from a place on; none past the line's end
abbrev pub parts_at : ℕ → List ℕ → List Part
parts_at place line = cond (leb place (length line)) (parts_from place (words (drop place line))) []

abbrev pub part : ℕ → List ℕ → Part
part offset text = record { offset = offset; text = text }

-- the first part is what stands before the first space, and the others begin behind that
pub next_part : (line : List ℕ) (place : ℕ) (text : List ℕ) → place ≤ length line → text ≡ before_first is_space (drop place line)
    → parts_at place line ≡ part place text ∷ parts_at (place + (length text + 1)) line
unfolding parts_from
next_part line place text within is = ⊎_elim more last (cases_lt n (length rest))
  where
    rest : List ℕ
    rest = drop place line

    n : ℕ
    n = position_or_len is_space rest

    long : length text ≡ n
    long = ap length is ∙ length-prefix_len (λ byte. not (is_space byte)) rest

    here : parts_at place line ≡ parts_from place (words rest)
    here = cond-true (leb place (length line)) _ _ (le-leb place (length line) within)

    behind : n < length rest → drop (n + 1) rest ≡ drop (place + (length text + 1)) line
    behind inside = let end : n + 1 + place ≡ place + (length text + 1) = omega (arith, long) in drop-drop (n + 1) place line ∙ ap (λ m. drop m line) (omega (arith, long))

    more : n < length rest → parts_at place line ≡ part place text ∷ parts_at (place + (length text + 1)) line
    more inside =
        let end : place + length text + 1 ≡ place + (length text + 1) = omega arith in
        here ∙ ap (parts_from place) (slice_split_first is_space rest 0 inside)
        ∙ (λ k. part place (sym is k) ∷ parts_from (place + length (sym is k) + 1) (words (behind inside k)))
        ∙ ap (λ m. part place text ∷ parts_from m (words (drop (place + (length text + 1)) line))) end
        ∙ ap (λ l. part place text ∷ l) (sym (cond-true (leb (place + (length text + 1)) (length line)) _ _ (le-leb (place + (length text + 1)) (length line) (omega (arith, long, length-drop place line)))))

    last : length rest ≤ n → parts_at place line ≡ part place text ∷ parts_at (place + (length text + 1)) line
    last none =
        let all : n ≡ length rest = omega (arith, prefix_len-le-length (λ byte. not (is_space byte)) rest) in
        let whole : rest ≡ text = sym (is ∙ take_all n rest none) in
        here ∙ ap (parts_from place) (slice_split_none is_space rest (λ k d h. fails_before_first is_space rest k d (omega (arith, all))))
        ∙ ap (λ l. part place l ∷ []) whole
        ∙ ap (λ l. part place text ∷ l) (sym (cond-false (leb (place + (length text + 1)) (length line)) _ _ (lt-leb (place + (length text + 1)) (length line) (omega (arith, long, all, length-drop place line)))))

-- a walk has come to its end where its place lies past the line's end
pub done : (line : List ℕ) (place : ℕ) → ltb (length line) place ≡ eqb (length (parts_at place line)) 0
unfolding parts_from
done line place = ⊎_elim past within (cases_lt (length line) place)
  where
    past : length line < place → ltb (length line) place ≡ eqb (length (parts_at place line)) 0
    past h = lt-ltb (length line) place h ∙ ap (λ l. eqb (length l) 0) (sym (cond-false (leb place (length line)) (parts_from place (words (drop place line))) [] (lt-leb place (length line) h)))

    some : (list : List (List ℕ)) → 0 < length list → eqb (length (parts_from place list)) 0 ≡ false
    some [] h = absurd (omega arith)
    some (word ∷ list) h = ne_eqb (length (parts_from place (word ∷ list))) 0 (λ e. omega (arith, e))

    within : place ≤ length line → ltb (length line) place ≡ eqb (length (parts_at place line)) 0
    within h = le-ltb (length line) place h
        ∙ sym (ap (λ l. eqb (length l) 0) (cond-true (leb place (length line)) (parts_from place (words (drop place line))) [] (le-leb place (length line) h)) ∙ some (words (drop place line)) (omega (arith, length-slice_split is_space (drop place line))))
