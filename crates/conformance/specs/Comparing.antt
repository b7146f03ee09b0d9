-- A comparison with all lines, up to the first that differs.
use Rattle.std.specs.Prelude.{◌≡◌, ℕ, ◌+◌, min, List, [], ◌∷◌, ◌++◌, Some, None, Option}
use Rattle.std.specs.Option.{option_or}
use Rattle.input.specs.Counting.{most_counted}
use Rattle.conformance.specs.Differences.{from_line}
use Rattle.conformance.specs.declared.comparison.Comparison.{Comparison}
use Rattle.conformance.specs.declared.difference.Difference.{Difference}

-- how many lines agree before the first that differs
abbrev pub agreeing_by : Option Difference → ℕ → ℕ
agreeing_by None others = others + 1
agreeing_by (Some difference) others = 0

unfoldable pub agreeing : List (List ℕ) → ℕ
agreeing [] = 0
agreeing (line ∷ lines) = agreeing_by (from_line line) (agreeing lines)

-- the first difference
unfoldable pub first_difference : List (List ℕ) → Option Difference
first_difference [] = None
first_difference (line ∷ lines) = option_or (from_line line) (first_difference lines)

-- the comparison was given these lines
pub record Compared (comparison : Comparison) (lines : List (List ℕ)) : Type 0 where
  pub agreed : comparison.agreed ≡ min (agreeing lines) most_counted
  pub first : comparison.first ≡ first_difference lines

-- the comparison went on with these lines: whatever it was given before, it was given them too
abbrev pub GoesOn : Comparison → List (List ℕ) → Comparison → Type 0
GoesOn before lines after = (earlier : List (List ℕ)) → Compared before earlier → Compared after (earlier ++ lines)
