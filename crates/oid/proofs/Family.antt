-- A parent and a child are what is identified of one arc less, and of one more.
use Rattle.std.proofs.Common.{◌≡◌, ℕ, ◌-◌, ◌<◌, ◌≤◌, true, false, cond, ◌&&◌, leb, List, [], ◌∷◌, ◌++◌, length, take, Some, None, sym, ap, ◌∙◌, ⊎_elim, arith}
use Rattle.std.proofs.lemmas.List.{length_push, length-take-le, take_at, get_or_append_left}
use Rattle.std.proofs.lemmas.Bool.{cases_lt, cond-true, cond-false, and_left, lt-ltb, le-ltb, lt-leb, le-leb}
use Rattle.oid.specs.Arcs.{is_arc}
use Rattle.oid.specs.Tree.{fewest_arcs, most_arcs, is_identifier, identified, parent_of, child_of}
use Rattle.oid.proofs.Tree.{keeps, kept, keeps_take, all_arcs_push}

-- a list of one arc is no identifier
too_short : (arcs : List ℕ) → length arcs < fewest_arcs → is_identifier arcs ≡ false
unfolding is_identifier
too_short arcs h = and_left (leb fewest_arcs (length arcs)) _ (lt-leb fewest_arcs (length arcs) h)

parent_taken : (arcs : List ℕ) → is_identifier arcs ≡ true → identified (take (length arcs - 1) arcs) ≡ parent_of arcs
parent_taken arcs rule = ⊎_elim more two (cases_lt fewest_arcs (length arcs))
  where
    more : fewest_arcs < length arcs → identified (take (length arcs - 1) arcs) ≡ parent_of arcs
    more h =
        let keeps_front = keeps_take (length arcs - 1) arcs (keeps arcs rule) (omega arith) (omega arith) in
        cond-true _ _ _ (kept _ keeps_front) ∙ sym (cond-true _ _ _ (lt-ltb fewest_arcs (length arcs) h))

    two : length arcs ≤ fewest_arcs → identified (take (length arcs - 1) arcs) ≡ parent_of arcs
    two h =
        let len = length-take-le (length arcs - 1) arcs (omega arith) in
        cond-false _ _ _ (too_short _ (omega (arith, len, (keeps arcs rule).long))) ∙ sym (cond-false _ _ _ (le-ltb fewest_arcs (length arcs) h))

pub parent_is : (arcs front : List ℕ) (last : ℕ) → is_identifier arcs ≡ true → arcs ≡ front ++ last ∷ []
    → identified front ≡ parent_of arcs
parent_is arcs front last rule cut =
    let one_less : length arcs - 1 ≡ length front = omega (arith, ap length cut ∙ length_push front last) in
    let front_is : take (length arcs - 1) arcs ≡ front =
    ap (take (length arcs - 1)) cut ∙ take_at front (last ∷ []) (length arcs - 1) (sym one_less) in
    ap identified (sym front_is) ∙ parent_taken arcs rule

module _ (arcs : List ℕ) (arc : ℕ) where
  -- where there is room, one arc more makes an identifier if it is an arc
  one_more : is_identifier arcs ≡ true → length arcs < most_arcs → is_identifier (arcs ++ arc ∷ []) ≡ is_arc arc
  unfolding is_identifier
  one_more rule room =
      let k = keeps arcs rule in
      let all = arcs ++ arc ∷ [] in
      let len = length_push arcs arc in
      let first = get_or_append_left arcs (arc ∷ []) 0 0 (omega (arith, k.long)) in
      let second = get_or_append_left arcs (arc ∷ []) 0 1 (omega (arith, k.long)) in
      rw (le-leb fewest_arcs (length all) (omega (arith, len, k.long)), le-leb (length all) most_arcs (omega (arith, len)), first, second, k.start) (all_arcs_push arcs arc k.each)

  pub child_is : is_identifier arcs ≡ true → length arcs < most_arcs → identified (arcs ++ arc ∷ []) ≡ child_of arcs arc
  child_is rule room =
      ap (λ v. cond v (Some (arcs ++ arc ∷ [])) None) (one_more rule room)
      ∙ sym (ap (λ v. cond (v && is_arc arc) (Some (arcs ++ arc ∷ [])) None) (lt-ltb (length arcs) most_arcs room))
