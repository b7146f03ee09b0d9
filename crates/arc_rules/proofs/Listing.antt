-- Ascending lists of arcs, and the first arc in one that is not below an arc.
use Rattle.std.proofs.Common.{◌≡◌, ◌≤◌, ◌<◌, ◌+◌, ℕ, zero, suc, Bool, true, false, cond, List, [], ◌∷◌, Some, None, Option, length, nat_eq, nat_lt, nat_le, slice_index_or, refl, sym, subst, arith}
use Rattle.std.proofs.lemmas.Bool.{and_from, and_parts, and_left, and_right, or_from, or_left, or_right, ne_eqb, eq-eqb, leb-true, leb-false, ltb-true}
use Rattle.std.specs.List.{find, IsAllAdjacentAnswer}
use Rattle.oid.specs.Arcs.{arc_limit}
use Rattle.arc_rules.specs.Sets.{among}
use Rattle.arc_rules.specs.Lowest.{IsLowest}
use Rattle.arc_rules.specs.Listed.{ascending}

-- the places of an arc and of the next in a list; the next has a variable of its own, since a list computes at none plus one
abbrev Neighbours : List ℕ → ℕ → ℕ → Type 0
Neighbours arcs place next = (next ≡ place + 1) × (next < length arcs)

-- a list ascends if each arc is below the next
rises : (arcs : List ℕ)
    → ((place next d : ℕ) → Neighbours arcs place next → nat_lt (slice_index_or arcs place d) (slice_index_or arcs next d) ≡ true)
    → ascending arcs ≡ true
rises [] all = refl
rises (arc ∷ []) all = refl
rises (arc ∷ second ∷ arcs) all =
    and_from (nat_lt arc second) _ (all 0 1 0 (refl, omega arith))
    (rises (second ∷ arcs) (λ place next d h. all (suc place) (suc next) d (omega (arith, h.0), omega (arith, h.1))))

-- and does not if one is not
falls : (arcs : List ℕ) (place next : ℕ) → Neighbours arcs place next
    → ((d : ℕ) → nat_lt (slice_index_or arcs place d) (slice_index_or arcs next d) ≡ false)
    → ascending arcs ≡ false
falls [] place next h out = absurd (omega (arith, h.1))
falls (arc ∷ arcs) place zero h out = absurd (omega (arith, h.0))
falls (arc ∷ []) place (suc next) h out = absurd (omega (arith, h.1))
falls (arc ∷ second ∷ arcs) zero (suc zero) h out = and_left (nat_lt arc second) _ (out 0)
falls (arc ∷ second ∷ arcs) zero (suc (suc next)) h out = absurd (omega (arith, h.0))
falls (arc ∷ second ∷ arcs) (suc place) (suc next) h out =
    and_right (nat_lt arc second) _ (falls (second ∷ arcs) place next (omega (arith, h.0), omega (arith, h.1)) out)

-- the library's answer about all neighbours of a list is whether it ascends
pub adjacent : (arcs : List ℕ) (answer : Bool) → IsAllAdjacentAnswer (λ arc next answer. answer ≡ nat_lt arc next) arcs answer
    → answer ≡ ascending arcs
adjacent arcs true all = sym (rises arcs each)
  where
    each : (place next d : ℕ) → Neighbours arcs place next → nat_lt (slice_index_or arcs place d) (slice_index_or arcs next d) ≡ true
    each place next d h =
        subst (λ next. nat_lt (slice_index_or arcs place d) (slice_index_or arcs next d) ≡ true) (sym h.0) (sym (all place d (omega (arith, h.0, h.1))))
adjacent arcs false some = sym (falls arcs some.0 (some.0 + 1) (refl, some.1) (λ d. sym (some.2 d)))

-- an arc that is below the first of an ascending list is not among them
below_first : (arc lower : ℕ) (arcs : List ℕ) → ascending (arc ∷ arcs) ≡ true → lower < arc → among (arc ∷ arcs) lower ≡ false
below_first arc lower [] rising h = or_from (nat_eq lower arc) false (ne_eqb lower arc (λ same. omega (arith, h, same))) refl
below_first arc lower (next ∷ arcs) rising h =
    let parts = and_parts (nat_lt arc next) _ rising in
    let higher = ltb-true arc next parts.0 in
    or_from (nat_eq lower arc) _ (ne_eqb lower arc (λ same. omega (arith, h, same))) (below_first next lower arcs parts.1 (omega (arith, h, higher)))

-- the first arc that is not below another is the lowest such
pub first_is_lowest : (arcs : List ℕ) (asked : ℕ) → ascending arcs ≡ true → ((i : ℕ) → slice_index_or arcs i 0 ≤ arc_limit)
    → IsLowest (among arcs) asked (find (nat_le asked) arcs)
first_is_lowest [] asked rising within = λ arc above within. refl
first_is_lowest (arc ∷ arcs) asked rising within = go (nat_le asked arc) refl (first_is_lowest arcs asked (tail arc arcs rising) (λ i. within (suc i)))
  where
    tail : (arc : ℕ) (arcs : List ℕ) → ascending (arc ∷ arcs) ≡ true → ascending arcs ≡ true
    tail arc [] rising = refl
    tail arc (next ∷ arcs) rising = (and_parts (nat_lt arc next) _ rising).1

    later : (found : Option ℕ) → arc < asked → IsLowest (among arcs) asked found → IsLowest (among (arc ∷ arcs)) asked found
    later (Some found) lower h = (
      h.0,
      h.1,
      or_right (nat_eq found arc) (among arcs found) h.2,
      λ between above below. or_from (nat_eq between arc) _ (ne_eqb between arc (λ same. omega (arith, lower, above, same))) (h.3 between above below),
    )
    later None lower h = λ other above within. or_from (nat_eq other arc) _ (ne_eqb other arc (λ same. omega (arith, lower, above, same))) (h other above within)

    go : (v : Bool) → nat_le asked arc ≡ v → IsLowest (among arcs) asked (find (nat_le asked) arcs)
        → IsLowest (among (arc ∷ arcs)) asked (cond v (Some arc) (find (nat_le asked) arcs))
    go true above rest = (
      leb-true asked arc above,
      within 0,
      or_left (nat_eq arc arc) (among arcs arc) (eq-eqb arc arc refl),
      λ between from to. below_first arc between arcs rising to,
    )
    go false below rest = later _ (omega (arith, leb-false asked arc below)) rest
