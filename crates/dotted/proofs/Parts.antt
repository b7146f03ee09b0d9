-- The parts of a text between its dots: those of a well-formed text are numbers, and those of an identifier's text its arcs.
use Rattle.std.proofs.Common.{◌≡◌, ℕ, zero, suc, ◌+◌, ◌<◌, Bool, true, false, cond, ◌&&◌, ◌||◌, List, [], ◌∷◌, ◌++◌, map, length, Some, decimal, sym, refl, ap, ◌∙◌, append-nil, arith}
use Rattle.std.specs.List.{slice_split, onto_first, join_with_byte, list_all, All}
use Rattle.std.specs.Option.{is_none}
use Rattle.std.specs.Str.{all_ascii_digits}
use Rattle.std.proofs.lemmas.Bool.{and_parts, and_right, or_left, both_ways, cond-true, cond-false}
use Rattle.std.proofs.lemmas.List.Splits.{slice_split_none, slice_split_at, length-slice_split, join_with_byte-slice_split}
use Rattle.oid.specs.Arcs.{is_arc}
use Rattle.oid.specs.Tree.{all_arcs}
use Rattle.dotted.specs.Form.{dot, is_dot, is_digit, begins_with_digit, may_stand, faulty_from, faulty}
use Rattle.dotted.specs.Pieces.{Piece, longer, pieces_from}
use Rattle.dotted.specs.Writing.{dotted_text}
use Rattle.dotted.proofs.Spelling.{digits_of, digit_no_dot}
use Rattle.dotted.proofs.Texts.{arc_fits}

abbrev pub parts : List ℕ → List (List ℕ)
parts text = slice_split is_dot text

-- the digits of each piece
abbrev pub digits_in : List Piece → List (List ℕ)
digits_in pieces = map (λ piece. piece.digits) pieces

some_parts : (text : List ℕ) → 0 < length (parts text)
some_parts text = omega (arith, length-slice_split is_dot text)

pub pieces_parts : (offset : ℕ) (text : List ℕ) → digits_in (pieces_from offset text) ≡ parts text
unfolding pieces_from
pieces_parts offset [] = refl
pieces_parts offset (byte ∷ rest) = go (is_dot byte) (pieces_from (offset + 1) rest) (pieces_parts (offset + 1) rest)
  where
    go : (v : Bool) (pieces : List Piece) → digits_in pieces ≡ parts rest
        → digits_in (cond v (record { offset = offset; digits = [] } ∷ pieces) (longer offset byte pieces)) ≡ cond v ([] ∷ parts rest) (onto_first byte (parts rest))
    go true pieces e = ap (λ l. [] ∷ l) e
    go false [] e = absurd (omega (arith, ap length e, some_parts rest))
    go false (piece ∷ pieces) e = ap (onto_first byte) e

-- digits alone, and one at least
abbrev pub number_text : List ℕ → Bool
number_text [] = false
number_text (byte ∷ digits) = is_digit byte && all_ascii_digits digits

-- the parts of what follows a digit, or not, are numbers; the first one goes on with the number before it
abbrev formed : Bool → List (List ℕ) → Bool
formed false list = list_all number_text list
formed true [] = false
formed true (part ∷ others) = all_ascii_digits part && list_all number_text others

formed_digit : (after_digit : Bool) (byte : ℕ) (list : List (List ℕ)) → is_digit byte ≡ true → 0 < length list
    → formed true list ≡ formed after_digit (onto_first byte list)
formed_digit after_digit byte [] e some = absurd (omega arith)
formed_digit true byte (part ∷ others) e some = ap (λ v. (v && all_ascii_digits part) && list_all number_text others) (sym e)
formed_digit false byte (part ∷ others) e some = ap (λ v. (v && all_ascii_digits part) && list_all number_text others) (sym e)

formed_other : (after_digit : Bool) (byte : ℕ) (list : List (List ℕ)) → is_digit byte ≡ false → 0 < length list
    → formed after_digit (onto_first byte list) ≡ false
formed_other after_digit byte [] e some = absurd (omega arith)
formed_other true byte (part ∷ others) e some = ap (λ v. (v && all_ascii_digits part) && list_all number_text others) e
formed_other false byte (part ∷ others) e some = ap (λ v. (v && all_ascii_digits part) && list_all number_text others) e

-- the text that has no fault
abbrev faultless : ℕ → Bool → List ℕ → Bool
faultless offset after_digit text = is_none (faulty_from offset after_digit text)

-- a text that begins with no digit does not begin with a number
unstarted : (text : List ℕ) → begins_with_digit text ≡ false → list_all number_text (parts text) ≡ false
unstarted [] h = refl
unstarted (byte ∷ rest) h = go (is_dot byte)
  where
    go : (v : Bool) → list_all number_text (cond v ([] ∷ parts rest) (onto_first byte (parts rest))) ≡ false
    go true = refl
    go false = formed_other false byte (parts rest) h (some_parts rest)

-- What follows a digit, or begins with one, has no fault exactly when its parts are numbers.
form_from : (text : List ℕ) (offset : ℕ) (after_digit : Bool) → (after_digit ≡ false → begins_with_digit text ≡ true)
    → faultless offset after_digit text ≡ formed after_digit (parts text)
unfolding faulty_from
form_from [] offset true starts = refl
form_from [] offset false starts = absurd (both_ways false refl (starts refl))
form_from (byte ∷ rest) offset after_digit starts =
    go (is_digit byte) refl after_digit refl (is_dot byte) refl (form_from rest (offset + 1))
  where
    Others : Type 0
    Others = (v : Bool) → (v ≡ false → begins_with_digit rest ≡ true) → faultless (offset + 1) v rest ≡ formed v (parts rest)

    go : (digit : Bool) → is_digit byte ≡ digit → (after : Bool) → after_digit ≡ after → (is : Bool) → is_dot byte ≡ is
        → Others → faultless offset after_digit (byte ∷ rest) ≡ formed after_digit (parts (byte ∷ rest))
    go true e after f is g others =
        ap is_none (cond-true (may_stand after_digit byte rest) _ _ (or_left (is_digit byte) _ e) ∙ ap (λ v. faulty_from (offset + 1) v rest) e)
        ∙ others true (λ h. absurd (both_ways true h refl))
        ∙ formed_digit after_digit byte (parts rest) e (some_parts rest)
        ∙ ap (formed after_digit) (sym (cond-false (is_dot byte) _ _ (digit_no_dot byte e)))
    go false e false f is g others = absurd (both_ways (is_digit byte) e (starts f))
    go false e true f false g others =
        (λ k. is_none (cond (e k || (g k && (after_digit && begins_with_digit rest))) (faulty_from (offset + 1) (is_digit byte) rest) (Some offset)))
        ∙ sym (formed_other after_digit byte (parts rest) e (some_parts rest))
        ∙ ap (formed after_digit) (sym (cond-false (is_dot byte) _ _ g))
    go false e true f true g others =
        (λ k. is_none (cond (e k || (g k && (f k && begins_with_digit rest))) (faulty_from (offset + 1) (e k) rest) (Some offset)))
        ∙ behind (begins_with_digit rest) refl
        ∙ (λ k. formed (sym f k) ([] ∷ parts rest))
        ∙ ap (formed after_digit) (sym (cond-true (is_dot byte) _ _ g))
      where
        behind : (v : Bool) → begins_with_digit rest ≡ v
            → is_none (cond v (faulty_from (offset + 1) false rest) (Some offset)) ≡ list_all number_text (parts rest)
        behind true h = others false (λ _. h)
        behind false h = sym (unstarted rest h)

-- A text has no fault exactly when all its parts are numbers.
pub form : (offset : ℕ) (text : List ℕ) → is_none (faulty offset text) ≡ list_all number_text (parts text)
unfolding faulty_from
form offset [] = refl
form offset (byte ∷ rest) = go (is_digit byte) refl
  where
    go : (v : Bool) → is_digit byte ≡ v
        → is_none (faulty_from offset false (byte ∷ rest)) ≡ list_all number_text (parts (byte ∷ rest))
    go true e = form_from (byte ∷ rest) offset false (λ _. e)
    go false e =
        (λ k. is_none (cond (e k || and_right (is_dot byte) false refl k) (faulty_from (offset + 1) (is_digit byte) rest) (Some offset)))
        ∙ sym (unstarted (byte ∷ rest) e)

-- digits have no dot among them
no_dots : (digits : List ℕ) → all_ascii_digits digits ≡ true → All (λ byte. is_dot byte ≡ false) digits
no_dots [] all k d h = absurd (omega arith)
no_dots (byte ∷ digits) all zero d h = digit_no_dot byte (and_parts (is_digit byte) (all_ascii_digits digits) all).0
no_dots (byte ∷ digits) all (suc k) d h =
    no_dots digits (and_parts (is_digit byte) (all_ascii_digits digits) all).1 k d (omega arith)

-- the text of arcs, put together from their digits
text_join : (arcs : List ℕ) → dotted_text arcs ≡ join_with_byte dot (map decimal arcs)
unfolding dotted_text
text_join [] = refl
text_join (arc ∷ []) = append-nil (decimal arc)
text_join (arc ∷ next ∷ arcs) = ap (λ l. decimal arc ++ dot ∷ l) (text_join (next ∷ arcs))

-- a text whose parts are the digits of arcs is their text
pub text_parts : (text arcs : List ℕ) → parts text ≡ map decimal arcs → text ≡ dotted_text arcs
text_parts text arcs e = sym (join_with_byte-slice_split dot text) ∙ ap (join_with_byte dot) e ∙ sym (text_join arcs)

-- and the parts of arcs' text are their digits
pub parts_text : (arcs : List ℕ) → 0 < length arcs → all_arcs arcs ≡ true → parts (dotted_text arcs) ≡ map decimal arcs
unfolding dotted_text all_arcs
parts_text [] some h = absurd (omega arith)
parts_text (arc ∷ []) some h =
    let digits = digits_of arc (arc_fits arc (and_parts (is_arc arc) true h).0) in
    ap parts (append-nil (decimal arc)) ∙ slice_split_none is_dot (decimal arc) (no_dots (decimal arc) digits)
parts_text (arc ∷ next ∷ arcs) some h =
    let split = and_parts (is_arc arc) (all_arcs (next ∷ arcs)) h in
    let digits = digits_of arc (arc_fits arc split.0) in
    slice_split_at is_dot (decimal arc) dot (dotted_text (next ∷ arcs)) (no_dots (decimal arc) digits) refl
    ∙ ap (λ l. decimal arc ∷ l) (parts_text (next ∷ arcs) (omega arith) split.1)
