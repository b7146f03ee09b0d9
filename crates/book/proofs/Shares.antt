-- What the children of an authority have used up, as a sum over all rows.
use Rattle.std.proofs.Common.{◌≡◌, ℕ, ◌+◌, Bool, true, false, cond, List, [], ◌∷◌, ◌++◌, refl, sym, ap, ◌∙◌, arith}
use Rattle.std.specs.List.{filter, sum_by, AllByRecursion}
use Rattle.std.proofs.lemmas.Bool.{cond-true, cond-false}
use Rattle.std.proofs.lemmas.List.Sums.{sum_by-cons, sum_by_push}
use Rattle.book.specs.Book.{Entry, Book, is_child, children}
use Rattle.book.specs.Left.{counted, used}
use Rattle.book.proofs.Rows.{chosen}

-- what an entry has used up of the quota of an authority: nothing, unless it is its child
abbrev pub share : List ℕ → Entry → ℕ
share parent entry = cond (is_child parent entry) (counted entry) 0

sum_filter : {X : Type 0} (f : X → ℕ) (test : X → Bool) (xs : List X) → sum_by f (filter test xs) ≡ sum_by (λ x. cond (test x) (f x) 0) xs
sum_filter f test [] = refl
sum_filter f test (x ∷ xs) =
    chosen (test x) true false _ refl
    (λ passes _. ap (sum_by f) (cond-true _ _ _ passes) ∙ sum_by-cons f x (filter test xs)
    ∙ ap (λ n. f x + n) (sum_filter f test xs) ∙ ap (λ n. n + sum_by (λ x. cond (test x) (f x) 0) xs) (sym (cond-true _ _ _ passes))
    ∙ sym (sum_by-cons (λ x. cond (test x) (f x) 0) x xs))
    (λ fails _. ap (sum_by f) (cond-false _ _ _ fails) ∙ sum_filter f test xs
    ∙ (let first = cond-false (test x) (f x) 0 fails in omega (arith, sum_by-cons (λ x. cond (test x) (f x) 0) x xs, first)))

pub used_is : (parent : List ℕ) (book : Book) → used (children parent book) ≡ sum_by (share parent) book
unfolding used children
used_is parent book = sum_filter counted (is_child parent) book

pub used_more : (parent : List ℕ) (book : Book) (more : Entry)
    → used (children parent (book ++ more ∷ [])) ≡ used (children parent book) + share parent more
used_more parent book more =
    used_is parent (book ++ more ∷ []) ∙ sum_by_push (share parent) book more ∙ ap (λ n. n + share parent more) (sym (used_is parent book))

-- two functions with the same of each row have the same sum
pub sum_same : {X : Type 0} (f g : X → ℕ) (xs : List X) → AllByRecursion (λ x. f x ≡ g x) xs → sum_by f xs ≡ sum_by g xs
sum_same f g [] same = refl
sum_same f g (x ∷ xs) same =
    let later = sum_same f g xs same.1 in
    omega (arith, sum_by-cons f x xs, sum_by-cons g x xs, later, same.0)

pub sum_none : {X : Type 0} (f : X → ℕ) (xs : List X) → AllByRecursion (λ x. f x ≡ 0) xs → sum_by f xs ≡ 0
sum_none f [] none = refl
sum_none f (x ∷ xs) none = let later = sum_none f xs none.1 in omega (arith, sum_by-cons f x xs, later, none.0)
