-- Question 1 refuses at the first byte that does not fit.
use Rattle.std.proofs.Common.{◌≡◌, ℕ, zero, suc, ◌+◌, ◌-◌, ◌<◌, ◌≤◌, Bool, true, false, cond, not, ◌&&◌, ◌||◌, ltb, List, length, get_or, drop, Some, sym, refl, ap, ◌∙◌, subst, ⊎_elim, arith}
use Rattle.std.specs.List.{find, range_with_len}
use Rattle.std.proofs.lemmas.List.{get_or_past, at_drop_more, at_drop_all, drop_more, drop_all}
use Rattle.std.proofs.lemmas.Bool.{cases_lt, le-ltb, lt-ltb, and_left}
use Rattle.dotted.specs.Form.{is_dot, is_digit, begins_with_digit, may_stand, faulty_from, faulty}
use Rattle.dotted.specs.Laws.{fits_at, FirstMisfit}

module _ (text : List ℕ) (start : ℕ) where
  -- a digit stands before i, at `start` or later
  abbrev digit_before : ℕ → Bool
  digit_before i = ltb start i && is_digit (get_or text (i - 1) 0)

  abbrev misfit : ℕ → Bool
  misfit i = not (fits_at text start i)

  next_digit : (i : ℕ) → begins_with_digit (drop i text) ≡ is_digit (get_or text i 0)
  next_digit i =
      ⊎_elim (at_drop_more begins_with_digit text i 0) (λ past. at_drop_all begins_with_digit text i past ∙ sym (ap is_digit (get_or_past text i 0 past))) (cases_lt i (length text))

  before_next : (i : ℕ) → start ≤ i → is_digit (get_or text i 0) ≡ digit_before (i + 1)
  before_next i h =
      let later = lt-ltb start (i + 1) (omega arith) in
      let back : i ≡ i + 1 - 1 = omega arith in
      ap (λ n. is_digit (get_or text n 0)) back ∙ ap (λ v. v && is_digit (get_or text (i + 1 - 1) 0)) (sym later)

  -- the walk from byte to byte stops where the search does
  walk : (n i : ℕ) → i + n ≡ length text → start ≤ i
      → faulty_from i (digit_before i) (drop i text) ≡ find misfit (range_with_len i n)
  unfolding faulty_from
  walk zero i left low = at_drop_all (faulty_from i (digit_before i)) text i (omega arith)
  walk (suc n) i left low =
      let step : faulty_from i (digit_before i) (drop i text) ≡ cond (may_stand (digit_before i) (get_or text i 0) (drop (i + 1) text)) (faulty_from (i + 1) (is_digit (get_or text i 0)) (drop (i + 1) text)) (Some i) =
      at_drop_more (faulty_from i (digit_before i)) text i 0 (omega arith) in
      let onward = ap (λ d. faulty_from (i + 1) d (drop (i + 1) text)) (before_next i low) ∙ walk n (i + 1) (omega arith) (omega arith) in
      step
      ∙ (λ k. cond (is_digit (get_or text i 0) || (is_dot (get_or text i 0) && (digit_before i && next_digit (i + 1) k))) (onward k) (Some i))
      ∙ other_way (fits_at text start i)
    where
      other_way : (v : Bool) → cond v (find misfit (range_with_len (i + 1) n)) (Some i) ≡ cond (not v) (Some i) (find misfit (range_with_len (i + 1) n))
      other_way true = refl
      other_way false = refl

  -- nothing stands past the end
  end_misfit : length text ≤ start → fits_at text start start ≡ false
  end_misfit past =
      ap (λ byte. is_digit byte || (is_dot byte && ((ltb start start && is_digit (get_or text (start - 1) 0)) && is_digit (get_or text (start + 1) 0)))) (get_or_past text start 0 past)

  pub faulty_empty : length text ≤ start → faulty start (drop start text) ≡ Some start
  faulty_empty past = ap (faulty start) (drop_all start text past)

  pub faulty_found : start < length text → faulty start (drop start text) ≡ find misfit (range_with_len start (length text - start))
  faulty_found inside =
      let first = drop_more text start 0 inside in
      let outset = sym (and_left (ltb start start) (is_digit (get_or text (start - 1) 0)) (le-ltb start start (omega arith))) in
      let begun : faulty start (drop start text) ≡ faulty_from start false (drop start text) = rw first refl in
      begun ∙ ap (λ d. faulty_from start d (drop start text)) outset ∙ walk (length text - start) start (omega arith) (omega arith)

  -- it is the first misfit among so many bytes from i on
  abbrev FirstAmong : ℕ → ℕ → ℕ → Type 0
  FirstAmong n i at =
      (i ≤ at) × (at < i + n) × (fits_at text start at ≡ false) × ((k : ℕ) → i ≤ k → k < at → fits_at text start k ≡ true)

  found : (n i at : ℕ) → find misfit (range_with_len i n) ≡ Some at → FirstAmong n i at
  found zero i at e = absurd (cc)
  found (suc n) i at e = go (fits_at text start i) refl e (found n (i + 1) at)
    where
      go : (v : Bool) → fits_at text start i ≡ v
          → cond (not v) (Some i) (find misfit (range_with_len (i + 1) n)) ≡ Some at
          → (find misfit (range_with_len (i + 1) n) ≡ Some at → FirstAmong n (i + 1) at) → FirstAmong (suc n) i at
      go true fit e others =
          let later = others e in
          (omega arith, omega arith, later.2, λ k low high. ⊎_elim (λ more. later.3 k (omega arith) high) (λ same. let here : k ≡ i = omega arith in ap (fits_at text start) here ∙ fit) (cases_lt i k))
      go false fit e others =
          let here : i ≡ at = cc in
          (omega arith, omega arith, ap (fits_at text start) (sym here) ∙ fit, λ k low high. absurd (omega arith))

  pub first_misfit : start ≤ length text → (at : ℕ) → faulty start (drop start text) ≡ Some at → FirstMisfit text start at
  first_misfit within at e = ⊎_elim some none (cases_lt start (length text))
    where
      some : start < length text → FirstMisfit text start at
      some inside =
          let is = found (length text - start) start at (sym (faulty_found inside) ∙ e) in
          (is.0, is.2, is.3, λ _. omega (arith, is.1))

      none : length text ≤ start → FirstMisfit text start at
      none past =
          let same : start ≡ at = cc (faulty_empty past) in
          subst (FirstMisfit text start) same (omega arith, end_misfit past, λ k low high. absurd (omega arith), λ inside. absurd (omega arith))
