-- Refusals of arc rules: the number and the words of each, and what a rule is that was refused.
use Rattle.std.specs.Prelude.{ℕ, List, ◌++◌, codes, decimal, Some, None, Option}
use Rattle.arc_rules.specs.Sets.{ArcSet, no_arc}
use Rattle.arc_rules.specs.Listed.{listed_most}
use Rattle.arc_rules.specs.declared.refusal.RuleRefusal.{RuleRefusal}
use Rattle.arc_rules.specs.declared.refusal.RuleRefusal.TheVariants.{UnfitList}

-- the number that a refusal is told by
abbrev pub number_of : RuleRefusal → ℕ
number_of UnfitList = 27

-- what is wrong
abbrev pub words_of : RuleRefusal → List ℕ
words_of UnfitList = codes "the listed arcs are not strictly ascending, or more than " ++ decimal listed_most

-- what a rule tells of its making: the number of the refusal, or 0 where nothing was refused
abbrev pub told_number : Option RuleRefusal → ℕ
told_number None = 0
told_number (Some refusal) = number_of refusal

-- what a rule stands for: the set that it was made for, or no arc where it was refused
abbrev pub unless_refused : Option RuleRefusal → ArcSet → ArcSet
unless_refused None set = set
unless_refused (Some refusal) set = no_arc
