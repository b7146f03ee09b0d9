-- The laws of arc rules, and that there is one lowest arc, from which they follow.
use Rattle.std.proofs.Common.{◌≡◌, ℕ, ◌<◌, ◌≤◌, Bool, true, false, Some, None, Option, nat_lt, nat_eq, refl, sym, ap, ◌∙◌, subst, arith}
use Rattle.std.specs.Option.{option_eq}
use Rattle.std.proofs.lemmas.Bool.{eqb-true, eqb-false, ltb-true, ltb-false, both_ways}
use Rattle.oid.specs.Arcs.{arc_limit}
use Rattle.arc_rules.specs.Sets.{ArcSet}
use Rattle.arc_rules.specs.Lowest.{IsLowest, lowest_from}
use Rattle.arc_rules.specs.Laws.{SameArcs, OneAnswer, OnlyLowest, AnswersTellSet}
use Rattle.arc_rules.proofs.Searching.{search_is_lowest}

-- there is one
one_lowest : (set : ArcSet) (from : ℕ) (one other : Option ℕ) → IsLowest set from one → IsLowest set from other → one ≡ other
one_lowest set from (Some arc) (Some other) here there =
    let no_lower = apart set arc other here.2 (there.3 arc here.0) in
    let no_higher = apart set other arc there.2 (here.3 other there.0) in
    ap Some (omega (arith, no_lower, no_higher))
  where
    -- an arc of the set is not below another, if below that other there is none
    apart : (set : ArcSet) (arc other : ℕ) → set arc ≡ true → (arc < other → set arc ≡ false) → other ≤ arc
    apart set arc other is out = go (nat_lt arc other) refl
      where
        go : (v : Bool) → nat_lt arc other ≡ v → other ≤ arc
        go true lower = absurd (both_ways (set arc) (out (ltb-true arc other lower)) is)
        go false no_lower = ltb-false arc other no_lower
one_lowest set from (Some arc) None here there = absurd (both_ways (set arc) (there arc here.0 here.1) here.2)
one_lowest set from None (Some arc) here there = absurd (both_ways (set arc) (here arc there.0 there.1) there.2)
one_lowest set from None None here there = refl

-- an arc is in a set where the lowest that is not below it is that arc, and only there
pub lowest_is_itself : (set : ArcSet) (arc : ℕ) (lowest : Option ℕ) → arc ≤ arc_limit → IsLowest set arc lowest
    → option_eq nat_eq lowest (Some arc) ≡ set arc
lowest_is_itself set arc (Some found) within h = go (nat_eq found arc) refl
  where
    go : (v : Bool) → nat_eq found arc ≡ v → v ≡ set arc
    go true same = sym (subst (λ arc. set arc ≡ true) (eqb-true found arc same) h.2)
    go false other = sym (h.3 arc (omega arith) (omega (arith, h.0, eqb-false found arc other)))
lowest_is_itself set arc None within h = sym (h arc (omega arith) within)

-- the lowest arc of a set is that of every set with the same arcs
same_lowest : (one other : ArcSet) → SameArcs one other → (from : ℕ) (lowest : Option ℕ) → IsLowest other from lowest → IsLowest one from lowest
same_lowest one other same from (Some arc) h = (
  h.0,
  h.1,
  same arc h.1 ∙ h.2,
  λ between above below. same between (omega (arith, below, h.1)) ∙ h.3 between above below,
)
same_lowest one other same from None h = λ arc above within. same arc within ∙ h arc above within

pub only_lowest : OnlyLowest
only_lowest set from answer = (
  λ answers. one_lowest set from answer (lowest_from set from) answers (search_is_lowest set from),
  λ same. subst (IsLowest set from) (sym same) (search_is_lowest set from),
)

pub one_answer : OneAnswer
one_answer one other same asked answer another here there =
    one_lowest one asked answer another here (same_lowest one other same asked another there)

pub answers_tell_set : AnswersTellSet
answers_tell_set one other same arc within =
    let both = same arc within in
    sym (lowest_is_itself one arc both.0 within both.1) ∙ lowest_is_itself other arc both.0 within both.2
