-- The lowest arc that no child has, looked for by asking a rule again and again.
use Rattle.std.proofs.Common.{◌≡◌, ℕ, ◌+◌, ◌<◌, ◌≤◌, Bool, true, false, ◌&&◌, not, List, Some, None, Option, refl, sym, ap, ◌∙◌, subst, ⊎_elim, arith}
use Rattle.std.proofs.lemmas.Bool.{cases_lt, cond-true, and_right, and_from, leb-false}
use Rattle.std.proofs.lemmas.Option.{none-some}
use Rattle.oid.specs.Arcs.{arc_limit, is_arc, next_arc}
use Rattle.arc_rules.specs.Sets.{ArcSet}
use Rattle.arc_rules.specs.Lowest.{IsLowest}
use Rattle.arc_rules.proofs.Theorems.{only_lowest}
use Rattle.book.specs.Book.{Entry, is_taken}
use Rattle.book.specs.Free.{untaken, free_arc}

module _ (set : ArcSet) (siblings : List Entry) where
  -- what is not in the set, or is taken, is not free
  out : (arc : ℕ) → set arc ≡ false → untaken set siblings arc ≡ false
  out arc none = ap (λ v. v && not (is_taken arc siblings)) none

  taken_out : (arc : ℕ) → is_taken arc siblings ≡ true → untaken set siblings arc ≡ false
  taken_out arc taken = and_right (set arc) _ (ap not taken)

  is_free : (answer : Option ℕ) → IsLowest (untaken set siblings) 0 answer → answer ≡ free_arc set siblings
  is_free answer lowest = (only_lowest (untaken set siblings) 0 answer).0 lowest

  -- Where no arc below the one asked for is free:
  module _ (asked : ℕ) (below : (arc : ℕ) → arc < asked → untaken set siblings arc ≡ false) where
    either : (arc : ℕ) → (asked ≤ arc → untaken set siblings arc ≡ false) → untaken set siblings arc ≡ false
    either arc above = ⊎_elim (below arc) above (cases_lt arc asked)

    -- the rule has no more arcs
    pub no_more : IsLowest set asked None → None ≡ free_arc set siblings
    no_more none = is_free None (λ arc _ within. either arc (λ above. out arc (none arc above within)))

    module _ (arc : ℕ) (lowest : IsLowest set asked (Some arc)) where
      -- its next arc is free
      pub free_now : is_taken arc siblings ≡ false → Some arc ≡ free_arc set siblings
      free_now free =
          is_free (Some arc) (
            omega arith,
            lowest.1,
            and_from (set arc) _ lowest.2 (ap not free),
            λ between _ lower. either between (λ above. out between (lowest.3 between above lower)),
          )

      -- its next arc is taken, and is the largest of all
      pub all_taken : is_taken arc siblings ≡ true → next_arc arc ≡ None → None ≡ free_arc set siblings
      all_taken taken last = is_free None (λ other _ within. either other (λ above.
          ⊎_elim (λ lower. out other (lowest.3 other above lower)) (λ higher.
          let same : arc ≡ other = omega (arith, higher, within, largest) in
          subst (λ arc. untaken set siblings arc ≡ false) same (taken_out arc taken)) (cases_lt other arc)))
        where
          largest : arc_limit < arc + 1
          largest = go (is_arc (arc + 1)) refl
            where
              go : (v : Bool) → is_arc (arc + 1) ≡ v → arc_limit < arc + 1
              go true is = absurd (none-some (arc + 1) (sym last ∙ cond-true _ _ _ is))
              go false is = leb-false _ _ is
