-- Arc rules: what one means, and what it answers.
use Rattle.std.specs.Prelude.{ℕ, Option}
use Rattle.arc_rules.specs.Sets.{ArcSet}
use Rattle.arc_rules.specs.Lowest.{IsLowest}

-- what a rule means: the set of arcs that it stands for
pub record Meaning : Type 0 where
  pub set : ArcSet

-- a rule's answer to a question: the lowest arc of its set that is not below the one asked for, or none where there is none
abbrev pub Answers : Meaning → ℕ → Option ℕ → Type 0
Answers meaning asked answer = IsLowest meaning.set asked answer
