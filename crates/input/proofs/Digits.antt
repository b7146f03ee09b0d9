-- Hexadecimal digits, from digit to digit and from pair to pair.
use Rattle.std.proofs.Common.{◌≡◌, ℕ, zero, suc, ◌+◌, ◌-◌, ◌*◌, ◌/◌, ◌%◌, ◌<◌, ◌≤◌, Bool, true, false, cond, eqb, List, [], ◌∷◌, ◌++◌, length, get_or, take, drop, set, Some, None, Option, sym, refl, ap, ◌∙◌, append_assoc, arith}
use Rattle.std.specs.List.{position}
use Rattle.std.specs.Option.{option_or}
use Rattle.std.specs.Simd.{first_chunks}
use Rattle.std.proofs.lemmas.List.{drop_more, take_more, set_at, length-take-le}
use Rattle.std.proofs.lemmas.List.Quantifiers.{position-Some}
use Rattle.std.proofs.lemmas.Bool.{cond-true, cond-false, eqb-true, eqb-false, le-leb, lt-leb}
use Rattle.input.specs.Hex.{is_stray, hex_value, unpaired, pairs_in, pairs_fit, pairs_read}

-- a byte at fault is one of them
pub unpaired_within : (digits : List ℕ) (k : ℕ) → unpaired digits ≡ Some k → k < length digits
unpaired_within digits k e = go (position is_stray digits) refl (eqb (length digits % 2) 1) refl e
  where
    go : (found : Option ℕ) → position is_stray digits ≡ found → (odd : Bool) → eqb (length digits % 2) 1 ≡ odd
        → option_or found (cond odd (Some (length digits - 1)) None) ≡ Some k → k < length digits
    go (Some offset) same odd parity h = let here : offset ≡ k = cc in omega (arith, (position-Some is_stray digits offset 0 same).0)
    go None same true parity h =
        let here : length digits - 1 ≡ k = cc in
        omega (arith, eqb-true (length digits % 2) 1 parity)
    go None same false parity h = cc

-- where none is, there are pairs of digits only
pub unpaired_even : (digits : List ℕ) → unpaired digits ≡ None → length digits % 2 ≡ 0
unpaired_even digits e = go (position is_stray digits) (eqb (length digits % 2) 1) refl e
  where
    go : (found : Option ℕ) (odd : Bool) → eqb (length digits % 2) 1 ≡ odd
        → option_or found (cond odd (Some (length digits - 1)) None) ≡ None → length digits % 2 ≡ 0
    go (Some offset) odd parity h = let z : ◌≡◌ {A = ℕ} 0 1 = cc in absurd (omega arith)
    go None true parity h = let z : ◌≡◌ {A = ℕ} 0 1 = cc in absurd (omega arith)
    go None false parity h = omega (arith, eqb-false (length digits % 2) 1 parity)

pub length_pairs : (digits : List ℕ) → length (pairs_in digits) ≡ length digits / 2
unfolding pairs_in
length_pairs [] = refl
length_pairs (digit ∷ []) = refl
length_pairs (high ∷ (low ∷ rest)) = omega (arith, length_pairs rest)

-- the byte of a pair
pub pair_at : (digits : List ℕ) (count i : ℕ) → count ≡ length digits / 2 → i < count
    → get_or (pairs_in digits) i 0
    ≡ 16 * hex_value (get_or (get_or (first_chunks 2 count digits) i []) 0 0) + hex_value (get_or (get_or (first_chunks 2 count digits) i []) 1 0)
unfolding pairs_in
pair_at digits zero i e h = absurd (omega arith)
pair_at [] (suc count) i e h = absurd (omega arith)
pair_at (digit ∷ []) (suc count) i e h = absurd (omega arith)
pair_at (high ∷ (low ∷ rest)) (suc count) zero e h = refl
pair_at (high ∷ (low ∷ rest)) (suc count) (suc i) e h = pair_at rest count i (omega arith) (omega arith)

-- one byte more of those that are to stand at a page's front
pub front_more : (bytes page now : List ℕ) (i byte : ℕ) → i < length bytes → i < length page
    → now ≡ take i bytes ++ drop i page → byte ≡ get_or bytes i 0
    → set now i byte ≡ take (i + 1) bytes ++ drop (i + 1) page
front_more bytes page now i byte inside room e here =
    (λ k. set ((e ∙ ap (λ l. take i bytes ++ l) (drop_more page i 0 room)) k) i (here k))
    ∙ set_at (take i bytes) (get_or page i 0) (drop (i + 1) page) (get_or bytes i 0) i (length-take-le i bytes (omega arith))
    ∙ sym (append_assoc (take i bytes) (get_or bytes i 0 ∷ []) (drop (i + 1) page))
    ∙ ap (λ l. l ++ drop (i + 1) page) (sym (take_more bytes i 0 inside))

-- digits in a page that has room for their pairs
module _ (digits page : List ℕ) (room : length digits ≤ 2 * length page) where
  fits : pairs_fit digits page ≡ true
  fits = le-leb (length (pairs_in digits)) (length page) (omega (arith, length_pairs digits))

  pub never_short : None ≡ pairs_read digits page → ⊥
  never_short e =
      let read = e ∙ cond-true (pairs_fit digits page) _ _ fits in
      let z : ◌≡◌ {A = ℕ} 0 1 = cc in
      omega arith

-- digits that are pairs, more than there is room for
pub none_fit : (digits page : List ℕ) (count : ℕ) → unpaired digits ≡ None → 2 * length page < length digits
    → Some count ≡ pairs_read digits page → ⊥
none_fit digits page count paired more read =
    let few = cond-false (pairs_fit digits page) (Some (length (pairs_in digits))) None (lt-leb (length (pairs_in digits)) (length page) (omega (arith, length_pairs digits, unpaired_even digits paired))) in
    let z : ◌≡◌ {A = ℕ} 0 1 = cc in
    omega arith
