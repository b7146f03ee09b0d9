-- The first byte at fault, by the first pair at fault.
use Rattle.std.proofs.Common.{◌≡◌, ℕ, zero, suc, ◌+◌, ◌-◌, ◌*◌, ◌/◌, ◌%◌, ◌<◌, ◌≤◌, Bool, true, false, not, ◌&&◌, cond, ltb, eqb, List, [], ◌∷◌, length, get_or, Some, None, Option, sym, refl, ap, ◌∙◌, ⊎_elim, arith}
use Rattle.std.specs.Char.{is_ascii_hexdigit}
use Rattle.std.specs.List.{position, position_or_len}
use Rattle.std.specs.Option.{option_or}
use Rattle.std.specs.Simd.{first_chunks}
use Rattle.std.proofs.lemmas.Bool.{cond-true, cond-false, lt-ltb, le-ltb, eq-eqb, ne_eqb, cases_lt}
use Rattle.std.proofs.lemmas.Grind.{common_steps}
use Rattle.std.proofs.lemmas.List.Quantifiers.{position-Some}
use Rattle.input.specs.Hex.{is_stray, is_stray_pair, unpaired}

-- where the first stray byte stands, by where the first stray pair does, and whether that pair's higher byte is a digit
abbrev Stands : ℕ → List (List ℕ) → ℕ → ℕ → Bool → Type 0
Stands count pairs byte pair high =
    (pair < count → is_ascii_hexdigit (get_or (get_or pairs pair []) 0 0) ≡ high → byte ≡ 2 * pair + cond high 1 0) × (count ≤ pair → 2 * count ≤ byte)

walk : (digits : List ℕ) (count : ℕ) (high : Bool) → count ≡ length digits / 2
    → Stands count (first_chunks 2 count digits) (position_or_len is_stray digits) (position_or_len is_stray_pair (first_chunks 2 count digits)) high
walk digits zero high e = (λ below. absurd (omega arith), λ above. omega arith)
walk [] (suc count) high e = absurd (omega arith)
walk (digit ∷ []) (suc count) high e = absurd (omega arith)
walk (first ∷ (second ∷ rest)) (suc count) high e = by (is_ascii_hexdigit first) (is_ascii_hexdigit second) refl (walk rest count high (omega arith))
  where
    pairs : List (List ℕ)
    pairs = first_chunks 2 count rest

    byte : ℕ
    byte = position_or_len is_stray rest

    pair : ℕ
    pair = position_or_len is_stray_pair pairs

    by : (a b : Bool) → is_ascii_hexdigit first ≡ a → Stands count pairs byte pair high
        → Stands (suc count) ((first ∷ (second ∷ [])) ∷ pairs) (cond (not (not a)) (1 + cond (not (not b)) (1 + byte) 0) 0) (cond (not (not (a && b))) (1 + pair) 0) high
    by true true same further = (
      λ below top.
          let next : suc pair ≡ 1 + pair = omega arith in
          let higher = ap (λ k. is_ascii_hexdigit (get_or (get_or ((first ∷ (second ∷ [])) ∷ pairs) k []) 0 0)) next ∙ top in
          omega (arith, further.0 (omega arith) higher),
      λ above. omega (arith, further.1 (omega arith)),
    )
    by true false same further = (λ below top. ap (λ h. 2 * 0 + cond h 1 0) (sym same ∙ top), λ above. absurd (omega arith))
    by false b same further = (λ below top. ap (λ h. 2 * 0 + cond h 1 0) (sym same ∙ top), λ above. absurd (omega arith))

-- of digits and the pairs in them
module _ (digits : List ℕ) (count : ℕ) (few : count ≡ length digits / 2) where
  abbrev pub pairs : List (List ℕ)
  pairs = first_chunks 2 count digits

  abbrev byte : ℕ
  byte = position_or_len is_stray digits

  abbrev last : Option ℕ
  last = cond (eqb (length digits % 2) 1) (Some (length digits - 1)) None

  found : byte < length digits → unpaired digits ≡ Some byte
  found inside = ap (λ place. option_or place last) (cond-true (ltb byte (length digits)) (Some byte) None (lt-ltb byte (length digits) inside))

  missed : length digits ≤ byte → unpaired digits ≡ last
  missed outside = ap (λ place. option_or place last) (cond-false (ltb byte (length digits)) (Some byte) None (le-ltb byte (length digits) outside))

  -- a pair is at fault
  pub unpaired_in_pair : (place : ℕ) (high : Bool) → length pairs ≡ count → position is_stray_pair pairs ≡ Some place
      → is_ascii_hexdigit (get_or (get_or pairs place []) 0 0) ≡ high → unpaired digits ≡ Some (2 * place + cond high 1 0)
  unpaired_in_pair place high long at top =
      let inside = (position-Some is_stray_pair pairs place [] at).0 in
      let first : position_or_len is_stray_pair pairs ≡ place = grind (arith, common_steps) in
      let stands = (walk digits count high few).0 (omega (arith, inside)) (ap (λ k. is_ascii_hexdigit (get_or (get_or pairs k []) 0 0)) first ∙ top) in
      let small = below_two high in
      found (omega (arith, stands, first)) ∙ ap Some (stands ∙ ap (λ k. 2 * k + cond high 1 0) first)
    where
      below_two : (b : Bool) → cond b 1 0 < 2
      below_two true = omega arith
      below_two false = omega arith

  -- none is
  clean : length pairs ≡ count → position is_stray_pair pairs ≡ None → 2 * count ≤ byte
  clean long none =
      let all : length pairs ≤ position_or_len is_stray_pair pairs = grind (arith, common_steps) in
      (walk digits count true few).1 (omega (arith, all))

  pub unpaired_last : length pairs ≡ count → position is_stray_pair pairs ≡ None → length digits % 2 ≡ 1 → unpaired digits ≡ Some (length digits - 1)
  unpaired_last long none odd =
      let least = clean long none in
      ⊎_elim (λ inside. found inside ∙ ap Some (omega arith))
      (λ outside. missed (omega arith) ∙ cond-true (eqb (length digits % 2) 1) _ _ (eq-eqb (length digits % 2) 1 odd))
      (cases_lt byte (length digits))

  pub unpaired_none : length pairs ≡ count → position is_stray_pair pairs ≡ None → (length digits % 2 ≡ 1 → ⊥) → unpaired digits ≡ None
  unpaired_none long none even =
      let least = clean long none in
      missed (omega arith) ∙ cond-false (eqb (length digits % 2) 1) _ _ (ne_eqb (length digits % 2) 1 even)
