-- Identifiers that are the same, parents and children, and what is below what, on lists of arcs.
use Rattle.std.proofs.Common.{◌≡◌, ℕ, ◌+◌, ◌-◌, ◌<◌, ◌≤◌, Bool, true, false, ◌&&◌, eqb, List, [], ◌∷◌, ◌++◌, length, get_or, take, Some, None, Option, Decides, refl, sym, ap, ◌∙◌, subst, ⊎_elim, arith}
use Rattle.std.proofs.lemmas.Bool.{both_ways, cases_lt, and_right, cond-true, cond-false, lt-ltb, le-ltb}
use Rattle.std.proofs.lemmas.Bool.Decides.{Decides-eqb}
use Rattle.std.proofs.lemmas.List.{length_push, length-take-le, take_at, take_all, take_more}
use Rattle.std.proofs.lemmas.Slice.Eq.{slice_eq-Decides}
use Rattle.std.specs.Option.{option_eq}
use Rattle.oid.specs.Tree.{parent_of, begins_with, at_or_below, below}
use Rattle.book.specs.Book.{Entry, same, is_child}
use Rattle.book.specs.Law.{is_within}

same_decides : (a b : List ℕ) → Decides (same a b) (a ≡ b)
same_decides a b = slice_eq-Decides Decides-eqb a b (same a b) refl

-- `same` decides equality
pub same_true : (a b : List ℕ) → same a b ≡ true → a ≡ b
same_true a b h = (same_decides a b).0 h

pub same_itself : (a : List ℕ) → same a a ≡ true
same_itself a = (same_decides a a).1 refl

-- what is not the same is not equal
pub apart : (a b : List ℕ) → same a b ≡ false → a ≡ b → ⊥
apart a b other is = both_ways _ other (ap (same a) (sym is) ∙ same_itself a)

-- an entry is a child where its parent is the one named
pub child_true : (parent : List ℕ) (entry : Entry) → is_child parent entry ≡ true → parent_of entry.identifier ≡ Some parent
child_true parent entry h = go (parent_of entry.identifier) h
  where
    go : (o : Option (List ℕ)) → option_eq same o (Some parent) ≡ true → o ≡ Some parent
    go None e = let z : ◌≡◌ {A = ℕ} 0 1 = cc in absurd (omega arith)
    go (Some p) e = ap Some (same_true p parent e)

pub child_from : (parent : List ℕ) (entry : Entry) → parent_of entry.identifier ≡ Some parent → is_child parent entry ≡ true
child_from parent entry e = ap (λ o. option_eq same o (Some parent)) e ∙ same_itself parent

-- the parent of one arc more is what it was added to
pub parent_of_child : (o : List ℕ) (arc : ℕ) → 2 ≤ length o → parent_of (o ++ arc ∷ []) ≡ Some o
parent_of_child o arc long =
    let len = length_push o arc in
    cond-true _ _ _ (lt-ltb 2 (length (o ++ arc ∷ [])) (omega arith)) ∙ ap Some (take_at o (arc ∷ []) (length (o ++ arc ∷ []) - 1) (omega arith))

-- what has a parent is that parent with one arc more
pub record OneMore (t parent : List ℕ) : Type 0 where
  pub arc : ℕ
  pub is : t ≡ parent ++ arc ∷ []

-- a list with some arc is what stands before its last arc, with that
before_last : (t : List ℕ) → 0 < length t → OneMore t (take (length t - 1) t)
before_last t some =
    record { arc = get_or t (length t - 1) 0; is = sym (take_all (length t - 1 + 1) t (omega arith)) ∙ take_more t (length t - 1) 0 (omega arith) }

pub parent_some : (t parent : List ℕ) → parent_of t ≡ Some parent → OneMore t parent × (2 ≤ length parent)
parent_some t parent e = ⊎_elim more few (cases_lt 2 (length t))
  where
    more : 2 < length t → OneMore t parent × (2 ≤ length parent)
    more long =
        let is : take (length t - 1) t ≡ parent = let both = sym (cond-true _ _ _ (lt-ltb 2 (length t) long)) ∙ e in cc in
        let len = length-take-le (length t - 1) t (omega arith) in
        (subst (OneMore t) is (before_last t (omega arith)), omega (arith, ap length is, len))

    few : length t ≤ 2 → OneMore t parent × (2 ≤ length parent)
    few short =
        let none = sym (cond-false _ _ _ (le-ltb 2 (length t) short)) ∙ e in
        let z : ◌≡◌ {A = ℕ} 0 1 = cc in absurd (omega arith)

-- a front that is no longer than a list is not looked for behind it
begins_in_front : (o x rest : List ℕ) → length x ≤ length o → begins_with (o ++ rest) x ≡ begins_with o x
unfolding begins_with
begins_in_front o [] rest h = refl
begins_in_front [] (a ∷ x) rest h = absurd (omega arith)
begins_in_front (b ∷ o) (a ∷ x) rest h = ap (λ v. eqb b a && v) (begins_in_front o x rest (omega arith))

-- no list begins with a longer one
begins_no_longer : (o x : List ℕ) → length o < length x → begins_with o x ≡ false
unfolding begins_with
begins_no_longer o [] h = absurd (omega arith)
begins_no_longer [] (a ∷ x) h = refl
begins_no_longer (b ∷ o) (a ∷ x) h = and_right (eqb b a) _ (begins_no_longer o x (omega arith))

pub and_true : (v : Bool) → (v && true) ≡ v
and_true true = refl
and_true false = refl

-- one arc more is below X exactly where what it was added to is at or below X
pub child_below : (o x : List ℕ) (arc : ℕ) → below (o ++ arc ∷ []) x ≡ at_or_below o x
child_below o x arc = ⊎_elim longer within (cases_lt (length o) (length x))
  where
    len : length (o ++ arc ∷ []) ≡ length o + 1
    len = length_push o arc

    within : length x ≤ length o → below (o ++ arc ∷ []) x ≡ at_or_below o x
    within h =
        ap (λ v. begins_with (o ++ arc ∷ []) x && v) (lt-ltb (length x) (length (o ++ arc ∷ [])) (omega (arith, len)))
        ∙ and_true (begins_with (o ++ arc ∷ []) x) ∙ begins_in_front o x (arc ∷ []) h

    longer : length o < length x → below (o ++ arc ∷ []) x ≡ at_or_below o x
    longer h =
        and_right (begins_with (o ++ arc ∷ []) x) _ (le-ltb (length x) (length (o ++ arc ∷ [])) (omega (arith, len)))
        ∙ sym (begins_no_longer o x h)

-- what is below X is what has a parent at or below X, where X has two arcs or more
pub below_by_parent : (t x : List ℕ) → 2 ≤ length x → below t x ≡ is_within x (parent_of t)
below_by_parent t x h = go (parent_of t) refl
  where
    go : (o : Option (List ℕ)) → parent_of t ≡ o → below t x ≡ is_within x o
    go (Some parent) e =
        let more = (parent_some t parent e).0 in
        ap (λ t. below t x) more.is ∙ child_below parent x more.arc
    go None e = ⊎_elim many few (cases_lt 2 (length t))
      where
        many : 2 < length t → below t x ≡ false
        many long =
            let none = sym (cond-true _ _ _ (lt-ltb 2 (length t) long)) ∙ e in
            let z : ◌≡◌ {A = ℕ} 0 1 = cc in absurd (omega arith)

        few : length t ≤ 2 → below t x ≡ false
        few short = and_right (begins_with t x) _ (le-ltb (length x) (length t) (omega arith))
