-- The walk over a text from number to number, and the value of one.
use Rattle.std.proofs.Common.{◌≡◌, ℕ, suc, ◌+◌, ◌<◌, ◌≤◌, min, Bool, true, false, cond, not, ◌&&◌, leb, List, [], ◌∷◌, ◌++◌, get_or, map, length, take, drop, Some, None, Option, unwrap_or, refl, sym, ap, ◌∙◌, ⊎_elim, arith}
use Rattle.std.specs.Char.{is_ascii_digit}
use Rattle.std.specs.List.{before_first, position, position_or_len, list_all}
use Rattle.std.specs.Str.{all_ascii_digits}
use Rattle.std.proofs.Math.Dec.{leb-suc-suc}
use Rattle.std.proofs.lemmas.Bool.{cases_lt, cond-true, le-leb, lt-ltb, le-ltb}
use Rattle.std.proofs.lemmas.Bool.Decides.{nat_tests}
use Rattle.std.proofs.lemmas.List.{drop-drop, length-drop, length-map, get_or-map, take_more}
use Rattle.std.proofs.lemmas.List.Folds.{length-prefix_len}
use Rattle.std.proofs.lemmas.List.Sums.{prefix_len-le-length}
use Rattle.oid.specs.Arcs.{arc_limit, arc_of}
use Rattle.oid.specs.Collected.{numeral_of}
use Rattle.oid.specs.Numbers.{Number}
use Rattle.oid.specs.declared.numeral.Numeral.{Numeral}
use Rattle.oid.proofs.Arcs.{arc_of_none}
use Rattle.dotted.specs.Form.{is_dot}
use Rattle.dotted.specs.Numerals.{numbers_left}
use Rattle.dotted.specs.Pieces.{Piece, longer, pieces_from, number_in, numbers_from}

abbrev pub piece : ℕ → List ℕ → Piece
piece offset digits = record { offset = offset; digits = digits }

-- where what stands before the first byte of some kind ends: at that byte, or where the text does
pub end_of_first : (test : ℕ → Bool) (text : List ℕ) (found : Option ℕ) → found ≡ position test text
    → unwrap_or found (length text) ≡ position_or_len test text
end_of_first test text found e = ap (λ o. unwrap_or o (length text)) e
    ∙ ⊎_elim
    (λ inside. ap (λ v. unwrap_or (cond v (Some n) None) (length text)) (lt-ltb n (length text) inside))
    (λ past. let all : length text ≡ n = omega (arith, prefix_len-le-length (λ byte. not (test byte)) text) in ap (λ v. unwrap_or (cond v (Some n) None) (length text)) (le-ltb n (length text) past) ∙ all)
    (cases_lt n (length text))
  where
    n : ℕ
    n = position_or_len test text

-- the pieces of what follows so many bytes, and none where the text has fewer
abbrev pub pieces_behind : ℕ → ℕ → List ℕ → List Piece
pieces_behind count offset text = cond (leb count (length text)) (pieces_from (offset + count) (drop count text)) []

-- the first piece ends before the first dot, and the others begin behind it
pub pieces_first : (offset : ℕ) (text : List ℕ)
    → pieces_from offset text ≡ piece offset (before_first is_dot text) ∷ pieces_behind (position_or_len is_dot text + 1) offset text
unfolding pieces_from
pieces_first offset [] = refl
pieces_first offset (byte ∷ rest) = go (is_dot byte) (pieces_first (offset + 1) rest)
  where
    -- the bytes before the first dot, where the first byte is one or not
    count : Bool → ℕ
    count v = cond (not v) (1 + position_or_len is_dot rest) 0

    go : (v : Bool)
        → pieces_from (offset + 1) rest ≡ piece (offset + 1) (before_first is_dot rest) ∷ pieces_behind (position_or_len is_dot rest + 1) (offset + 1) rest
        → cond v (piece offset [] ∷ pieces_from (offset + 1) rest) (longer offset byte (pieces_from (offset + 1) rest)) ≡ piece offset (take (count v) (byte ∷ rest)) ∷ pieces_behind (count v + 1) offset (byte ∷ rest)
    go true e =
        let left = le-leb 1 (length (byte ∷ rest)) (omega arith) in
        ap (λ v. piece offset [] ∷ cond v (pieces_from (offset + 1) rest) []) (sym left)
    go false e =
        let n = position_or_len is_dot rest in
        let one : suc n ≡ 1 + n = omega arith in
        let more : suc (n + 1) ≡ 1 + n + 1 = omega arith in
        let left : leb (n + 1) (length rest) ≡ leb (1 + n + 1) (length (byte ∷ rest)) =
        sym (leb-suc-suc (n + 1) (length rest)) ∙ ap (λ m. leb m (length (byte ∷ rest))) more in
        let offsets : offset + 1 + (n + 1) ≡ offset + (1 + n + 1) = omega arith in
        ap (longer offset byte) e
        ∙ (λ k. piece offset (take (one k) (byte ∷ rest)) ∷ cond (left k) (pieces_from (offsets k) (drop (more k) (byte ∷ rest))) [])

-- from within the text these are all its numbers
pub numbers_within : (text : List ℕ) (place : ℕ) → place ≤ length text
    → numbers_left place text ≡ numbers_from place (drop place text)
numbers_within text place within = cond-true (leb place (length text)) _ _ (le-leb place (length text) within)

-- the first number from a place on, as the code holds it, and those behind its piece
pub numbers_first : (text : List ℕ) (place : ℕ) (digits : List ℕ) (numeral : Numeral) → place ≤ length text
    → digits ≡ before_first is_dot (drop place text) → numeral ≡ numeral_of (number_in (piece place digits))
    → map numeral_of (numbers_left place text) ≡ numeral ∷ map numeral_of (numbers_left (place + (length digits + 1)) text)
numbers_first text place digits numeral within is held =
    let n = position_or_len is_dot (drop place text) in
    let long : length digits ≡ n = ap length is ∙ length-prefix_len (λ byte. not (is_dot byte)) (drop place text) in
    let end : place + (n + 1) ≡ place + (length digits + 1) = omega arith in
    let left : leb (n + 1) (length (drop place text)) ≡ leb (place + (length digits + 1)) (length text) =
    grind (arith, nat_tests, length-drop place text, end) in
    let behind = drop-drop (n + 1) place text ∙ ap (λ m. drop m text) end in
    ap (map numeral_of) (numbers_within text place within ∙ ap (map number_in) (pieces_first place (drop place text)))
    ∙ (λ k. numeral_of (number_in (piece place (sym is k))) ∷ map numeral_of (map number_in (cond (left k) (pieces_from (end k) (behind k)) [])))
    ∙ (λ k. sym held k ∷ map numeral_of (map_if (leb (place + (length digits + 1)) (length text)) (pieces_from (place + (length digits + 1)) (drop (place + (length digits + 1)) text)) k))
  where
    map_if : (v : Bool) (pieces : List Piece) → map number_in (cond v pieces []) ≡ cond v (map number_in pieces) []
    map_if true pieces = refl
    map_if false pieces = refl

-- the next number of a walk, and those so far with it
pub next_number : (all : List Number) (count : ℕ) (numeral : Numeral)
    → (count < length (map numeral_of all)) × (numeral ≡ get_or (map numeral_of all) count numeral)
    → (number : Number) × (numeral ≡ numeral_of number) × (take count all ++ number ∷ [] ≡ take (count + 1) all)
next_number all count numeral turn =
    let none : Number = record { offset = 0; value = 0; padded = false } in
    let inside : count < length all = omega (arith, turn.0, length-map all numeral_of) in
    (get_or all count none, turn.1 ∙ get_or-map numeral_of all count none numeral inside, sym (take_more all count none inside))

-- a value that is cut off at some largest number is the same arc, where arcs end below that number
pub arc_capped : (largest number : ℕ) → arc_limit < largest → arc_of (min number largest) ≡ arc_of number
arc_capped largest number h =
    ⊎_elim
    (λ below. let same : min number largest ≡ number = omega arith in ap arc_of same)
    (λ above. arc_of_none (min number largest) (omega arith) ∙ sym (arc_of_none number (omega arith)))
    (cases_lt number largest)

pub digits_listed : (text : List ℕ) → list_all is_ascii_digit text ≡ all_ascii_digits text
digits_listed [] = refl
digits_listed (byte ∷ text) = ap (λ v. is_ascii_digit byte && v) (digits_listed text)
