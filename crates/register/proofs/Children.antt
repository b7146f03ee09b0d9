-- Which rows are children, and which arcs they have.
use Rattle.std.proofs.Common.{◌≡◌, ℕ, ◌+◌, ◌<◌, ◌≤◌, Bool, true, false, cond, List, [], ◌∷◌, ◌++◌, length, ◌==◌, ◌||◌, ◌&&◌, map, filter, Some, refl, ap, ◌∙◌, ⊎_elim, arith}
use Rattle.std.proofs.lemmas.Bool.{cases_lt, cond-false, and_right, le-ltb}
use Rattle.std.proofs.lemmas.List.{length_push}
use Rattle.std.specs.List.{list_any}
use Rattle.std.specs.Option.{option_eq}
use Rattle.oid.specs.Tree.{parent_of}
use Rattle.book.specs.Book.{same, is_child, children, arc_of_child, is_taken}
use Rattle.register.specs.Kept.{entry_of, book_in, has_arc}
use Rattle.register.specs.declared.row.Row.{Row}
use Rattle.book.proofs.Identifiers.{same_true, parent_of_child, and_true}

-- the parent of a list is an authority where all but its last arc is that authority
pub child_by_front : (front authority : List ℕ) (last : ℕ) → 2 ≤ length authority
    → option_eq same (parent_of (front ++ last ∷ [])) (Some authority) ≡ same front authority
child_by_front front authority last long = ⊎_elim child no_child (cases_lt (length front) 2)
  where
    len : length (front ++ last ∷ []) ≡ length front + 1
    len = length_push front last

    no_child : 2 ≤ length front → option_eq same (parent_of (front ++ last ∷ [])) (Some authority) ≡ same front authority
    no_child enough = ap (λ o. option_eq same o (Some authority)) (parent_of_child front last enough)

    other : (v : Bool) → same front authority ≡ v → length front < 2 → false ≡ v
    other true is short = let equal = ap length (same_true front authority is) in absurd (omega (arith, equal))
    other false is short = refl

    child : length front < 2 → option_eq same (parent_of (front ++ last ∷ [])) (Some authority) ≡ same front authority
    child short =
        ap (λ o. option_eq same o (Some authority)) (cond-false _ _ _ (le-ltb 2 (length (front ++ last ∷ [])) (omega (arith, len))))
        ∙ other (same front authority) refl short

-- something of those that pass one test passes another where something passes both
any_filter : {X : Type 0} (p q : X → Bool) (xs : List X) → list_any (λ x. p x && q x) xs ≡ list_any p (filter q xs)
any_filter p q [] = refl
any_filter {X} p q (x ∷ xs) = go (q x) (any_filter p q xs)
  where
    go : (v : Bool) → list_any (λ x. p x && q x) xs ≡ list_any p (filter q xs)
        → ((p x && v) || list_any (λ x. p x && q x) xs) ≡ list_any p (cond v (x ∷ filter q xs) (filter q xs))
    go true later = ap (λ first. first || list_any (λ x. p x && q x) xs) (and_true (p x)) ∙ ap (λ rest. p x || rest) later
    go false later = ap (λ first. first || list_any (λ x. p x && q x) xs) (and_right (p x) false refl) ∙ later

any_map : {X Y : Type 0} (test : Y → Bool) (f : X → Y) (xs : List X) → list_any (λ x. test (f x)) xs ≡ list_any test (map f xs)
any_map test f [] = refl
any_map test f (x ∷ xs) = ap (λ rest. test (f x) || rest) (any_map test f xs)

-- an arc is taken where some row is a child that has it
pub taken_in : (o : List ℕ) (arc : ℕ) (rows : List Row) → list_any (λ row. has_arc o arc (entry_of row)) rows ≡ is_taken arc (children o (book_in rows))
unfolding is_taken children
taken_in o arc rows =
    any_map (has_arc o arc) entry_of rows ∙ any_filter (λ child. arc_of_child child == arc) (is_child o) (book_in rows)
