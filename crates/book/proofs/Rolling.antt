-- The list that a roll is answered with is what its words say.
use Rattle.std.proofs.Common.{◌≡◌, ℕ, zero, suc, ◌<◌, ◌≤◌, Bool, true, false, cond, List, [], ◌∷◌, length, get_or, Some, None, Option, nat_le, nat_lt, refl, sym, ap, ◌∙◌, subst, arith}
use Rattle.std.proofs.lemmas.Bool.{cond-true, cond-false, cond_both, ltb-true, ltb-false, eqb-true, eqb-false, leb-true, leb-false, eq-eqb, ne_eqb}
use Rattle.std.proofs.lemmas.Option.{slice_get_within, get_or_from_slice_get}
use Rattle.std.proofs.lemmas.List.Elements.{All-nil, All-cons, All-head, All-tail, All-weaker, All-filter, All-contains_itself, filter_passes}
use Rattle.std.proofs.lemmas.List.Folds.{find_at}
use Rattle.std.specs.Prelude.{⊤, find, filter, All, AllPairs, Contains, ◌==◌}
use Rattle.std.specs.List.{position_or_len}
use Rattle.book.specs.Book.{Entry, children, arc_of_child}
use Rattle.book.specs.Order.{put, in_order, from_arc}
use Rattle.book.specs.Rolls.{InOrder, RollsInOrder}
use Rattle.book.specs.Rulings.{Answer, listed, Ruling, answer_of, ask, there_is}
use Rattle.book.specs.declared.refusal.Refusal.{Refusal}

-- where a child is put: before the next, in its place, or further on
pub put_cases : (Holds : List Entry → Type 0) (child next : Entry) (others : List Entry)
    → (arc_of_child child < arc_of_child next → Holds (child ∷ next ∷ others))
    → (arc_of_child child ≡ arc_of_child next → Holds (child ∷ others))
    → (arc_of_child next < arc_of_child child → Holds (next ∷ put child others))
    → Holds (put child (next ∷ others))
put_cases Holds child next others before instead after =
    cond_both (nat_lt (arc_of_child child) (arc_of_child next)) _ _ Holds (λ is. before (ltb-true _ _ is)) (λ no_lower.
    cond_both (arc_of_child child == arc_of_child next) _ _ Holds (λ is. instead (eqb-true _ _ is)) (λ other.
    after (omega (arith, ltb-false _ _ no_lower, eqb-false _ _ other))))

-- what holds of a child and of others holds of them when it is put among them
all_put : (Holds : Entry → Type 0) (child : Entry) (others : List Entry) → Holds child → All Holds others → All Holds (put child others)
all_put Holds child [] here all = All-cons Holds child [] here all
all_put Holds child (next ∷ others) here all =
    put_cases (All Holds) child next others
    (λ before. All-cons Holds child (next ∷ others) here all)
    (λ instead. All-cons Holds child others here (All-tail Holds next others all))
    (λ after.
    All-cons Holds next (put child others) (All-head Holds next others all)
    (all_put Holds child others here (All-tail Holds next others all)))

-- and what holds of all children holds of them in order
pub all_in_order : (Holds : Entry → Type 0) (children : List Entry) → All Holds children → All Holds (in_order children)
unfolding in_order
all_in_order Holds [] all = all
all_in_order Holds (child ∷ others) all =
    all_put Holds child (in_order others) (All-head Holds child others all) (all_in_order Holds others (All-tail Holds child others all))

-- the arc of a child is below that of another; in an ascending list it is below all after it
abbrev pub Earlier : Entry → Entry → Type 0
Earlier child later = arc_of_child child < arc_of_child later

abbrev pub Ascending : List Entry → Type 0
Ascending [] = ⊤
Ascending (child ∷ others) = All (Earlier child) others × Ascending others

ascending_put : (child : Entry) (others : List Entry) → Ascending others → Ascending (put child others)
ascending_put child [] rising = (All-nil (Earlier child), tt)
ascending_put child (next ∷ others) rising =
    put_cases Ascending child next others
    (λ before.
    let all = All-weaker (Earlier next) (Earlier child) (λ later h. omega arith) others rising.0 in
    (All-cons (Earlier child) next others before all, rising))
    (λ instead. (All-weaker (Earlier next) (Earlier child) (λ later h. omega arith) others rising.0, rising.1))
    (λ after. (all_put (Earlier next) child others after rising.0, ascending_put child others rising.1))

pub ascending_in_order : (children : List Entry) → Ascending (in_order children)
unfolding in_order
ascending_in_order [] = tt
ascending_in_order (child ∷ others) = ascending_put child (in_order others) (ascending_in_order others)

ascending_filter : (test : Entry → Bool) (children : List Entry) → Ascending children → Ascending (filter test children)
ascending_filter test [] rising = tt
ascending_filter test (child ∷ others) rising =
    cond_both (test child) _ _ Ascending
    (λ kept. (All-filter test (Earlier child) others rising.0, ascending_filter test others rising.1))
    (λ out. ascending_filter test others rising.1)

pairs_ascending : (children : List Entry) → Ascending children → AllPairs Earlier children
pairs_ascending [] rising i j d lower within = absurd (omega arith)
pairs_ascending (child ∷ others) rising i zero d lower within = absurd (omega arith)
pairs_ascending (child ∷ others) rising zero (suc j) d lower within = rising.0 j d (omega arith)
pairs_ascending (child ∷ others) rising (suc i) (suc j) d lower within = pairs_ascending others rising.1 i j d (omega arith) (omega arith)

-- a child has an arc
abbrev has : ℕ → Entry → Bool
has arc child = arc_of_child child == arc

-- of two things that do not both hold, either may be asked first
either_first : {A : Type 0} (one other : Bool) (x y z : A) → (one ≡ true → other ≡ true → ⊥)
    → cond one x (cond other y z) ≡ cond other y (cond one x z)
either_first true true x y z h = absurd (h refl refl)
either_first true false x y z h = refl
either_first false other x y z h = refl

-- the first child with an arc is still the first with it when others are put in order, and when those with lower arcs are left out
first_put : (arc : ℕ) (child : Entry) (others : List Entry) → find (has arc) (put child others) ≡ find (has arc) (child ∷ others)
first_put arc child [] = refl
first_put arc child (next ∷ others) =
    put_cases (λ placed. find (has arc) placed ≡ find (has arc) (child ∷ next ∷ others)) child next others
    (λ before. refl)
    (λ instead. same_arc (has arc child) (ap (λ number. number == arc) (sym instead)))
    (λ after.
    ap (λ rest. cond (has arc next) (Some next) rest) (first_put arc child others)
    ∙ either_first (has arc next) (has arc child) _ _ _ (λ here there. omega (arith, eqb-true _ _ here, eqb-true _ _ there)))
  where
    same_arc : (v : Bool) → has arc next ≡ v
        → cond v (Some child) (find (has arc) others) ≡ cond v (Some child) (cond (has arc next) (Some next) (find (has arc) others))
    same_arc true is = refl
    same_arc false is = sym (cond-false (has arc next) _ _ is)

first_in_order : (arc : ℕ) (children : List Entry) → find (has arc) (in_order children) ≡ find (has arc) children
unfolding in_order
first_in_order arc [] = refl
first_in_order arc (child ∷ others) =
    first_put arc child (in_order others) ∙ ap (λ rest. cond (has arc child) (Some child) rest) (first_in_order arc others)

first_from : (arc from : ℕ) (children : List Entry) → from ≤ arc → find (has arc) (from_arc from children) ≡ find (has arc) children
first_from arc from [] above = refl
first_from arc from (child ∷ others) above =
    cond_both (nat_le from (arc_of_child child)) _ _ (λ kept. find (has arc) kept ≡ find (has arc) (child ∷ others))
    (λ is. ap (λ rest. cond (has arc child) (Some child) rest) (first_from arc from others above))
    (λ out.
    let lower = leb-false _ _ out in
    first_from arc from others above ∙ sym (cond-false (has arc child) _ _ (ne_eqb _ _ (λ same. omega (arith, lower, same)))))

-- something that passes a test is found in a list that has such a thing, and what is found is in the list
something_found : {A : Type 0} (test : A → Bool) (list : List A) (one : A) (place : ℕ) → place < length list → get_or list place one ≡ one
    → test one ≡ true → (first : A) × (find test list ≡ Some first)
something_found test [] one place within is passes = absurd (omega arith)
something_found test (first ∷ rest) one zero within is passes = (first, cond-true (test first) _ _ (ap test is ∙ passes))
something_found {A} test (first ∷ rest) one (suc place) within is passes =
    go (test first) (something_found test rest one place (omega arith) is passes)
  where
    go : (v : Bool) → (found : A) × (find test rest ≡ Some found) → (found : A) × (cond v (Some first) (find test rest) ≡ Some found)
    go true later = (first, refl)
    go false later = later

found_is_there : {A : Type 0} (test : A → Bool) (list : List A) (one : A) → find test list ≡ Some one → Contains list one
found_is_there test list one h =
    let place = position_or_len test list in
    let there = sym (find_at test list) ∙ h in
    (place, slice_get_within list place one there, get_or_from_slice_get list place one one there)

ordered : (children : List Entry) (from : ℕ) → InOrder children from (from_arc from (in_order children))
ordered children from = record {
  are_children = λ k d within. (
    All-filter above (Contains children) (in_order children) (all_in_order (Contains children) children (All-contains_itself children)) k d within,
    leb-true _ _ (filter_passes above (in_order children) k d within),
  );
  ascending = pairs_ascending (from_arc from (in_order children)) (ascending_filter above (in_order children) (ascending_in_order children));
  all_arcs = λ child there higher.
      let arc = arc_of_child child in
      let first = something_found (has arc) children child there.0 there.1 there.2 (eq-eqb arc arc refl) in (
        first.0,
        first.1,
        found_is_there (has arc) (from_arc from (in_order children)) first.0
            (first_from arc from (in_order children) higher ∙ (first_in_order arc children ∙ first.1)),
      );
}
  where
    above : Entry → Bool
    above child = nat_le from (arc_of_child child)

-- what comes to a list was asked for it
module _ (identifier : List ℕ) (shown : List Entry) where
  asked_listed : (refusal : Refusal) (holds : Bool) (others : Ruling) → answer_of (ask refusal holds others) ≡ listed identifier shown
      → answer_of others ≡ listed identifier shown
  unfolding ask
  asked_listed refusal true others e = e
  asked_listed refusal false others e = absurd (cc)

  there_listed : {A : Type 0} (refusal : Refusal) (thing : Option A) (others : A → Ruling) (told : Answer)
      → ((a : A) → answer_of (others a) ≡ listed identifier shown → told ≡ listed identifier shown)
      → answer_of (there_is refusal thing others) ≡ listed identifier shown → told ≡ listed identifier shown
  unfolding there_is
  there_listed refusal None others told onward e = absurd (cc)
  there_listed refusal (Some a) others told onward e = onward a e

pub rolls_in_order : RollsInOrder
rolls_in_order rules book holder o from identifier shown e =
    let all = from_arc from (in_order (children o book)) in
    let is = there_listed identifier shown _ _ _ (listed o all) (λ authority asked.
    asked_listed identifier shown _ _ _ (asked_listed identifier shown _ _ _ asked)) e in
    let own : o ≡ identifier = cc in
    let rolled : all ≡ shown = cc in
    (sym own, subst (InOrder (children o book) from) rolled (ordered (children o book) from))
