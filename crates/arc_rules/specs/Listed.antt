-- Listed arcs: which lists are refused.
use Rattle.std.specs.Prelude.{ℕ, Bool, List, [], ◌∷◌, ◌&&◌, true, cond, length, nat_lt, nat_le, Some, None, Option}
use Rattle.arc_rules.specs.declared.refusal.RuleRefusal.{RuleRefusal}
use Rattle.arc_rules.specs.declared.refusal.RuleRefusal.TheVariants.{UnfitList}

-- the most arcs that a rule may list
abbrev pub listed_most : ℕ
listed_most = 32

-- each arc is below the next
abbrev pub ascending : List ℕ → Bool
ascending [] = true
ascending (arc ∷ []) = true
ascending (arc ∷ next ∷ arcs) = nat_lt arc next && ascending (next ∷ arcs)

-- Are the listed arcs strictly ascending, and no more than the most? If not, the list is refused.
abbrev pub listed_refusal : List ℕ → Option RuleRefusal
listed_refusal arcs = cond (ascending arcs && nat_le (length arcs) listed_most) None (Some UnfitList)
