-- Laws of the questions about numbers: what each outcome of them makes of the reading.
use Rattle.std.proofs.Common.{◌≡◌, ℕ, ◌<◌, ◌≤◌, Bool, true, false, cond, not, ◌&&◌, ltb, leb, List, [], ◌∷◌, ◌++◌, map, length, get_or, Some, None, Ok, Err, Option, Result, unwrap_or, sym, refl, ap, ◌∙◌, arith}
use Rattle.std.specs.Bool.{then_some}
use Rattle.std.specs.Option.{option_map, option_or}
use Rattle.std.proofs.lemmas.List.{length-map}
use Rattle.std.proofs.lemmas.Bool.{and_parts, and_from, leb-true, and_left, and_right, le-leb, lt-leb, not-false, cond-false}
use Rattle.oid.specs.Arcs.{is_arc}
use Rattle.oid.specs.Collected.{stored_arc}
use Rattle.oid.specs.Numbers.{Number, values, offsets, too_large, first_at, leading_zeros, large_numbers, wrong_count, wrong_start, read_numbers}
use Rattle.oid.specs.Refusals.{fault_at, ask, number_of}
use Rattle.oid.specs.Tree.{fewest_arcs, most_arcs, last_root, all_arcs, starts_well, is_identifier}
use Rattle.oid.specs.declared.refusal.Fault.{Fault}
use Rattle.oid.specs.declared.refusal.Refusal.{Refusal}
use Rattle.oid.specs.declared.refusal.Refusal.TheVariants.{NotDotted, LeadingZero, ArcTooLarge, ArcCount, FirstArcs}
use Rattle.oid.proofs.Tree.{identifier_starts}

-- whether there are as many numbers as an identifier has
abbrev pub right_count : ℕ → Bool
right_count n = leb fewest_arcs n && leb n most_arcs

pub counted : (n : ℕ) → fewest_arcs ≤ n → n ≤ most_arcs → right_count n ≡ true
counted n low high = and_from (leb fewest_arcs n) _ (le-leb fewest_arcs n low) (le-leb n most_arcs high)

pub too_few : (n : ℕ) → n < fewest_arcs → right_count n ≡ false
too_few n h = and_left (leb fewest_arcs n) _ (lt-leb fewest_arcs n h)

pub too_many : (n : ℕ) → most_arcs < n → right_count n ≡ false
too_many n h = and_right (leb fewest_arcs n) _ (lt-leb n most_arcs h)

pub first_at_push : (test : Number → Bool) (numbers : List Number) (number : Number)
    → first_at test (numbers ++ number ∷ []) ≡ option_or (first_at test numbers) (then_some (test number) number.offset)
unfolding first_at
first_at_push test [] number = elim (test number) as (λ v. cond v (Some number.offset) None ≡ then_some v number.offset) [ true ↦ refl | false ↦ refl ]
first_at_push test (first ∷ numbers) number = go (test first) (first_at_push test numbers number)
  where
    go : (v : Bool)
        → first_at test (numbers ++ number ∷ []) ≡ option_or (first_at test numbers) (then_some (test number) number.offset)
        → cond v (Some first.offset) (first_at test (numbers ++ number ∷ [])) ≡ option_or (cond v (Some first.offset) (first_at test numbers)) (then_some (test number) number.offset)
    go true e = refl
    go false e = e

-- the test picks no number of the list: neither its first one, nor one of the others
pub first_at_none : (test : Number → Bool) (first : Number) (numbers : List Number)
    → first_at test (first ∷ numbers) ≡ None → (test first ≡ false) × (first_at test numbers ≡ None)
unfolding first_at
first_at_none test first numbers h = go (test first) h
  where
    go : (v : Bool) → cond v (Some first.offset) (first_at test numbers) ≡ None → (v ≡ false) × (first_at test numbers ≡ None)
    go true e = let z : ◌≡◌ {A = ℕ} 0 1 = cc in absurd (omega arith)
    go false e = (refl, e)

-- no number is too large: each is stored as it is, and each is an arc
pub none_large : (numbers : List Number) → first_at too_large numbers ≡ None
    → (map stored_arc numbers ≡ values numbers) × (all_arcs (values numbers) ≡ true)
unfolding all_arcs
none_large [] h = (refl, refl)
none_large (number ∷ numbers) h =
    let parts = first_at_none too_large number numbers h in
    let arc = not-false (is_arc number.value) parts.0 in
    let others = none_large numbers parts.1 in
    let stored : stored_arc number ≡ number.value = ap (λ v. unwrap_or (cond v (Some number.value) None) 0) arc in
    ((λ i. stored i ∷ others.0 i), and_from (is_arc number.value) _ arc others.1)

-- and the other way round
pub none_too_large : (numbers : List Number) → all_arcs (values numbers) ≡ true → first_at too_large numbers ≡ None
unfolding all_arcs first_at
none_too_large [] h = refl
none_too_large (number ∷ numbers) h =
    let parts = and_parts (is_arc number.value) (all_arcs (values numbers)) h in
    cond-false (too_large number) _ _ (ap not parts.0) ∙ none_too_large numbers parts.1

module _ (numbers : List Number) where
  pub read_zero : (at : ℕ) → first_at (λ number. number.padded) numbers ≡ Some at
      → read_numbers numbers ≡ Err (fault_at LeadingZero at)
  unfolding read_numbers
  read_zero at e = rw e refl

  module _ (no_zero : first_at (λ number. number.padded) numbers ≡ None) where
    pub read_large : (at : ℕ) → first_at too_large numbers ≡ Some at → read_numbers numbers ≡ Err (fault_at ArcTooLarge at)
    unfolding read_numbers
    read_large at e = rw (no_zero, e) refl

    module _ (no_large : first_at too_large numbers ≡ None) where
      pub read_count : right_count (length numbers) ≡ false → read_numbers numbers ≡ Err (fault_at ArcCount 0)
      unfolding read_numbers
      read_count e = rw (no_zero, no_large, e) refl

      module _ (enough : right_count (length numbers) ≡ true) where
        pub read_start : starts_well (get_or (values numbers) 0 0) (get_or (values numbers) 1 0) ≡ false
            → read_numbers numbers ≡ Err (fault_at FirstArcs (get_or (offsets numbers) (cond (ltb last_root (get_or (values numbers) 0 0)) 0 1) 0))
        unfolding read_numbers
        read_start e = rw (no_zero, no_large, enough, e) refl

        pub read_all : starts_well (get_or (values numbers) 0 0) (get_or (values numbers) 1 0) ≡ true
            → read_numbers numbers ≡ Ok (values numbers)
        unfolding read_numbers
        read_all e = rw (no_zero, no_large, enough, e) refl

-- A question that was put before an accepted reading said yes.
pub asked : {A : Type 0} (question : Option Fault) (others : Result A Fault) (value : A)
    → ask question others ≡ Ok value → (question ≡ None) × (others ≡ Ok value)
asked None others value e = (refl, e)
asked (Some fault) others value e = let z : ◌≡◌ {A = ℕ} 0 1 = cc in absurd (omega arith)

-- what an accepted list of numbers is
pub record Accepted (numbers : List Number) (arcs : List ℕ) : Type 0 where
  pub no_zero : first_at (λ number. number.padded) numbers ≡ None
  pub no_large : first_at too_large numbers ≡ None
  pub rule : is_identifier arcs ≡ true
  pub read : values numbers ≡ arcs

pub none_mapped : (f : ℕ → Fault) (o : Option ℕ) → option_map f o ≡ None → o ≡ None
none_mapped f None e = refl
none_mapped f (Some n) e = let z : ◌≡◌ {A = ℕ} 0 1 = cc in absurd (omega arith)

pub yes_cond : (v : Bool) (fault : Fault) → cond v None (Some fault) ≡ None → v ≡ true
yes_cond true fault e = refl
yes_cond false fault e = let z : ◌≡◌ {A = ℕ} 0 1 = cc in absurd (omega arith)

pub accepted : (numbers : List Number) (arcs : List ℕ) → read_numbers numbers ≡ Ok arcs → Accepted numbers arcs
unfolding read_numbers
accepted numbers arcs e =
    let zeros = asked (leading_zeros numbers) _ arcs e in
    let larges = asked (large_numbers numbers) _ arcs zeros.1 in
    let count = asked (wrong_count (length numbers)) _ arcs larges.1 in
    let start = asked (wrong_start numbers) _ arcs count.1 in
    let large = none_mapped (fault_at ArcTooLarge) (first_at too_large numbers) larges.0 in
    let counts =
    and_parts (leb fewest_arcs (length numbers)) (leb (length numbers) most_arcs) (yes_cond (right_count (length numbers)) _ count.0) in
    let long = length-map numbers (λ number. number.value) in
    let starts =
    identifier_starts (values numbers) (omega (arith, leb-true fewest_arcs (length numbers) counts.0)) (omega (arith, leb-true (length numbers) most_arcs counts.1)) (none_large numbers large).1 in
    let same : values numbers ≡ arcs = cc start.1 in
    record {
      no_zero = none_mapped (fault_at LeadingZero) (first_at (λ number. number.padded) numbers) zeros.0;
      no_large = large;
      rule =
          ap is_identifier (sym same) ∙ starts
          ∙ yes_cond (starts_well (get_or (values numbers) 0 0) (get_or (values numbers) 1 0)) _ start.0;
      read = same;
    }

-- the number of the refusal that ended a reading
abbrev refused_by : Result (List ℕ) Fault → ℕ
refused_by (Ok arcs) = 0
refused_by (Err fault) = number_of fault.refusal

module _ (refusal : Refusal) (apart : number_of refusal ≡ 1 → ⊥) (others : Result (List ℕ) Fault) (offset : ℕ) where
  -- a question with another refusal said yes, and the others were put
  past_offset : (o : Option ℕ) → ask (option_map (fault_at refusal) o) others ≡ Err (fault_at NotDotted offset)
      → others ≡ Err (fault_at NotDotted offset)
  past_offset None e = e
  past_offset (Some n) e = absurd (apart (ap refused_by e))

  past_test : (v : Bool) (at : ℕ)
      → ask (cond v None (Some (fault_at refusal at))) others ≡ Err (fault_at NotDotted offset)
      → others ≡ Err (fault_at NotDotted offset)
  past_test true at e = e
  past_test false at e = absurd (apart (ap refused_by e))

-- no question about numbers is refused as a wrong form
pub never_malformed : (numbers : List Number) (offset : ℕ) → read_numbers numbers ≡ Err (fault_at NotDotted offset) → ⊥
unfolding read_numbers
never_malformed numbers offset e =
    let zeros = past_offset LeadingZero (λ h. omega arith) _ offset (first_at (λ number. number.padded) numbers) e in
    let larges = past_offset ArcTooLarge (λ h. omega arith) _ offset (first_at too_large numbers) zeros in
    let count = past_test ArcCount (λ h. omega arith) _ offset (right_count (length numbers)) 0 larges in
    let start =
    past_test FirstArcs (λ h. omega arith) _ offset (starts_well (get_or (values numbers) 0 0) (get_or (values numbers) 1 0)) _ count in
    let z : ◌≡◌ {A = ℕ} 0 1 = ap refused_by start in
    omega arith
