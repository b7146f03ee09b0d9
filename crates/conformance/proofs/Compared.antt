-- A comparison, one line more.
use Rattle.std.proofs.Common.{◌≡◌, ℕ, ◌+◌, min, List, [], ◌∷◌, ◌++◌, Some, None, Option, sym, refl, ap, ◌∙◌, arith}
use Rattle.std.specs.Option.{option_or}
use Rattle.input.specs.Counting.{most_counted}
use Rattle.conformance.specs.Comparing.{agreeing_by, agreeing, first_difference, Compared}
use Rattle.conformance.specs.Differences.{from_line}
use Rattle.conformance.specs.Output.{lines_text, comparison_text}
use Rattle.conformance.specs.declared.comparison.Comparison.{Comparison}
use Rattle.conformance.specs.declared.difference.Difference.{Difference}

first_push : (lines : List (List ℕ)) (line : List ℕ)
    → first_difference (lines ++ line ∷ []) ≡ option_or (first_difference lines) (from_line line)
unfolding first_difference
first_push [] line = none (from_line line)
  where
    none : (difference : Option Difference) → option_or difference None ≡ difference
    none None = refl
    none (Some difference) = refl
first_push (one ∷ lines) line = go (from_line one) (first_push lines line)
  where
    go : (difference : Option Difference) → first_difference (lines ++ line ∷ []) ≡ option_or (first_difference lines) (from_line line)
        → option_or difference (first_difference (lines ++ line ∷ [])) ≡ option_or (option_or difference (first_difference lines)) (from_line line)
    go None e = e
    go (Some difference) e = refl

-- how many agree with one line more: as many, once one differs; else one more where that line agrees
abbrev pushed : Option Difference → Option Difference → ℕ → ℕ
pushed None None n = n + 1
pushed None (Some difference) n = n
pushed (Some first) difference n = n

pushed_more : (first difference : Option Difference) (n : ℕ) → pushed first difference n + 1 ≡ pushed first difference (n + 1)
pushed_more None None n = refl
pushed_more None (Some difference) n = refl
pushed_more (Some first) difference n = refl

agreeing_push : (lines : List (List ℕ)) (line : List ℕ)
    → agreeing (lines ++ line ∷ []) ≡ pushed (first_difference lines) (from_line line) (agreeing lines)
unfolding agreeing first_difference
agreeing_push [] line = none (from_line line)
  where
    none : (difference : Option Difference) → agreeing_by difference 0 ≡ pushed None difference 0
    none None = refl
    none (Some difference) = refl
agreeing_push (one ∷ lines) line = go (from_line one) (agreeing_push lines line)
  where
    go : (difference : Option Difference)
        → agreeing (lines ++ line ∷ []) ≡ pushed (first_difference lines) (from_line line) (agreeing lines)
        → agreeing_by difference (agreeing (lines ++ line ∷ [])) ≡ pushed (option_or difference (first_difference lines)) (from_line line) (agreeing_by difference (agreeing lines))
    go None e = ap (λ n. n + 1) e ∙ pushed_more (first_difference lines) (from_line line) (agreeing lines)
    go (Some difference) e = refl

module _ (before after : Comparison) (lines : List (List ℕ)) (line : List ℕ) (known : Compared before lines) where
  -- once one differs nothing changes
  pub compared_kept : (first : Difference) → before.first ≡ Some first → after.first ≡ before.first
      → after.agreed ≡ before.agreed → Compared after (lines ++ line ∷ [])
  compared_kept first e same_first same_agreed =
      let found = sym known.first ∙ e in
      record {
        agreed = same_agreed ∙ known.agreed ∙ sym (ap (λ n. min n most_counted) (agreeing_push lines line ∙ ap (λ o. pushed o (from_line line) (agreeing lines)) found));
        first = same_first ∙ e ∙ sym (first_push lines line ∙ ap (λ o. option_or o (from_line line)) found);
      }

  module _ (none : before.first ≡ None) where
    so_far : first_difference lines ≡ None
    so_far = sym known.first ∙ none

    pub compared_differs : (difference : Difference) → Some difference ≡ from_line line → after.first ≡ Some difference
        → after.agreed ≡ before.agreed → Compared after (lines ++ line ∷ [])
    compared_differs difference e now same_agreed = record {
      agreed = same_agreed ∙ known.agreed ∙ sym (ap (λ n. min n most_counted) (agreeing_push lines line ∙ (λ k. pushed (so_far k) (sym e k) (agreeing lines))));
      first = now ∙ sym (first_push lines line ∙ (λ k. option_or (so_far k) (sym e k)));
    }

    pub compared_agrees : None ≡ from_line line → after.first ≡ None → after.agreed ≡ min (before.agreed + 1) most_counted
        → Compared after (lines ++ line ∷ [])
    compared_agrees e still more =
        let counted = agreeing_push lines line ∙ (λ k. pushed (so_far k) (sym e k) (agreeing lines)) in
        record {
          agreed = omega (arith, more, known.agreed, counted);
          first = still ∙ sym (first_push lines line ∙ (λ k. option_or (so_far k) (sym e k)));
        }

-- what is said of it
pub compared_said : (comparison : Comparison) (lines : List (List ℕ)) → Compared comparison lines
    → comparison_text comparison ≡ lines_text (min (agreeing lines) most_counted) (first_difference lines)
compared_said comparison lines known = λ k. lines_text (known.agreed k) (known.first k)
