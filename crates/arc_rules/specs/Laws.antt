-- What follows of all arc rules from how they answer. It is said of sets, so that it holds whatever else a rule may mean.
use Rattle.std.specs.Prelude.{ℕ, ◌≤◌, ◌≡◌, ◌↔◌, Option}
use Rattle.oid.specs.Arcs.{arc_limit}
use Rattle.arc_rules.specs.Sets.{ArcSet}
use Rattle.arc_rules.specs.Lowest.{IsLowest, lowest_from}

-- the lowest arc is what the search finds, and nothing else
abbrev pub OnlyLowest : Type 0
OnlyLowest = (set : ArcSet) (from : ℕ) (answer : Option ℕ) → IsLowest set from answer ↔ (answer ≡ lowest_from set from)

-- the same arcs are in two sets
abbrev pub SameArcs : ArcSet → ArcSet → Type 0
SameArcs one other = (arc : ℕ) → arc ≤ arc_limit → one arc ≡ other arc

-- to every question there is an answer that is right for both sets
abbrev pub SameAnswers : ArcSet → ArcSet → Type 0
SameAnswers one other = (asked : ℕ) → asked ≤ arc_limit → (answer : Option ℕ) × IsLowest one asked answer × IsLowest other asked answer

-- two answers to one question are equal, for one set, and for two with the same arcs
abbrev pub OneAnswer : Type 0
OneAnswer = (one other : ArcSet) → SameArcs one other
    → (asked : ℕ) (answer another : Option ℕ) → IsLowest one asked answer → IsLowest other asked another → answer ≡ another

-- two sets with the same answers have the same arcs
abbrev pub AnswersTellSet : Type 0
AnswersTellSet = (one other : ArcSet) → SameAnswers one other → SameArcs one other
