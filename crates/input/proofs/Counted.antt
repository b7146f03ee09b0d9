-- Lines counted one after the other are counted together.
use Rattle.std.proofs.Common.{◌≡◌, ℕ, ◌+◌, ◌≤◌, min, Bool, true, false, not, cond, List, [], ◌∷◌, length, count_by, sym, ap, ◌∙◌, arith}
use Rattle.std.proofs.lemmas.List.Sums.{sum_by-cons}
use Rattle.input.specs.Counting.{most_counted, counted, all_counted, none_counted, tally_of}
use Rattle.input.specs.declared.tally.Tally.{Tally}

module _ (good : List ℕ → Bool) where
  abbrev refused : List (List ℕ) → ℕ
  refused lines = count_by (λ line. not (good line)) lines

  one_more : (is_good : Bool) (tally : Tally) (others : ℕ) → tally.refused ≤ most_counted
      → min ((counted is_good tally).refused + others) most_counted ≡ min (tally.refused + (cond (not is_good) 1 0 + others)) most_counted
  one_more true tally others h = omega arith
  one_more false tally others h = omega arith

  -- both counts grow, as far as they can
  module _ (tally : Tally) where
    abbrev Within : Type 0
    Within = (tally.read ≤ most_counted) × (tally.refused ≤ most_counted)

  within_more : (is_good : Bool) (tally : Tally) → Within tally → Within (counted is_good tally)
  within_more true tally h = (omega arith, h.1)
  within_more false tally h = (omega arith, omega arith)

  counted_on : (lines : List (List ℕ)) (before : Tally) → Within before
      → ((all_counted good lines before).read ≡ min (before.read + length lines) most_counted)
      × ((all_counted good lines before).refused ≡ min (before.refused + refused lines) most_counted)
  counted_on [] before h = (omega (arith, h.0), omega (arith, h.1))
  counted_on (line ∷ lines) before h =
      let rest = counted_on lines (counted (good line) before) (within_more (good line) before h) in (
        omega (arith, rest.0),
        rest.1 ∙ one_more (good line) before (refused lines) h.1
            ∙ ap (λ n. min (before.refused + n) most_counted) (sym (sum_by-cons (λ l. cond (not (good l)) 1 0) line lines)),
      )

  -- from none
  pub counted_all : (lines : List (List ℕ)) → all_counted good lines none_counted ≡ tally_of good lines
  counted_all lines =
      let both = counted_on lines none_counted (omega arith, omega arith) in
      let read : (all_counted good lines none_counted).read ≡ (tally_of good lines).read = omega (arith, both.0) in
      let refused : (all_counted good lines none_counted).refused ≡ (tally_of good lines).refused = omega (arith, both.1) in
      λ k. record { read = read k; refused = refused k }
