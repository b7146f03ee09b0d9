-- A book seen from outside X, without the entries below X: what is found in it, and what a call does to it.
use Rattle.std.proofs.Common.{◌≡◌, ℕ, ◌≤◌, Bool, true, false, cond, not, List, [], ◌∷◌, ◌++◌, length, Some, refl, sym, ap, ◌∙◌, append-nil}
use Rattle.std.specs.Prelude.{filter, find, ⊤}
use Rattle.std.proofs.lemmas.Bool.{cond-true, cond-false, both_ways, false_from_ne_true, not_from_false, not_from_true}
use Rattle.std.proofs.lemmas.List.Elements.{filter-append}
use Rattle.oid.specs.Tree.{at_or_below, below}
use Rattle.book.specs.Book.{Entry, Book, is_at, found, is_child, children}
use Rattle.book.specs.Law.{is_within, outside}
use Rattle.book.specs.Rulings.{Ruling, refuses, enters, turns, tells, book_after, turned}
use Rattle.book.specs.declared.kind.Kind.{Kind}
use Rattle.book.proofs.Identifiers.{same_true, child_true, below_by_parent}

-- what only looks at the elements that pass a test sees the same where none of them is left out
module _ {X Y : Type 0} (test kept : X → Bool) (keeps : (x : X) → test x ≡ true → kept x ≡ true)
    (seen : List X → Y) (with : X → Y → Y) (each : (x : X) (xs : List X) → seen (x ∷ xs) ≡ cond (test x) (with x (seen xs)) (seen xs)) where
  fails : (x : X) → kept x ≡ false → test x ≡ false
  fails x out = false_from_ne_true (test x) (λ passes. both_ways (kept x) out (keeps x passes))

  seen_kept : (xs : List X) → seen (filter kept xs) ≡ seen xs
  seen_kept [] = refl
  seen_kept (x ∷ xs) = go (kept x) refl (seen_kept xs) ∙ sym (each x xs)
    where
      go : (keep : Bool) → kept x ≡ keep → seen (filter kept xs) ≡ seen xs
          → seen (cond keep (x ∷ filter kept xs) (filter kept xs)) ≡ cond (test x) (with x (seen xs)) (seen xs)
      go true is rest = each x (filter kept xs) ∙ ap (λ more. cond (test x) (with x more) more) rest
      go false out rest = rest ∙ sym (cond-false (test x) _ _ (fails x out))

-- an entry is not below X
abbrev is_outside : List ℕ → Entry → Bool
is_outside x entry = not (below entry.identifier x)

module _ (x : List ℕ) where
  -- an entry at T is below X where T is
  at_below : (t : List ℕ) (entry : Entry) → is_at t entry ≡ true → below entry.identifier x ≡ below t x
  at_below t entry here = ap (λ identifier. below identifier x) (same_true entry.identifier t here)

  -- the entry of an identifier that is not below X is found
  pub found_outside : (t : List ℕ) → below t x ≡ false → (book : Book) → found t (outside x book) ≡ found t book
  unfolding found
  found_outside t out book =
      seen_kept (is_at t) (is_outside x) (λ entry here. not_from_false _ (at_below t entry here ∙ out)) (find (is_at t))
      (λ entry more. Some entry) (λ entry entries. refl) book

  -- the children of an authority that is not at or below X are all seen
  pub children_outside : 2 ≤ length x → (o : List ℕ) → at_or_below o x ≡ false → (book : Book) → children o (outside x book) ≡ children o book
  unfolding children
  children_outside long o out book =
      seen_kept (is_child o) (is_outside x) kept (filter (is_child o)) (λ entry more. entry ∷ more) (λ entry entries. refl) book
    where
      kept : (entry : Entry) → is_child o entry ≡ true → is_outside x entry ≡ true
      kept entry child =
          not_from_false _ (below_by_parent entry.identifier x long ∙ ap (is_within x) (child_true o entry child) ∙ out)

  -- a change of kind at what is not below X is seen
  turned_seen : (t : List ℕ) (kind : Kind) → below t x ≡ false → (book : Book) → outside x (turned t kind book) ≡ turned t kind (outside x book)
  unfolding turned
  turned_seen t kind out [] = refl
  turned_seen t kind out (entry ∷ entries) = go (is_at t entry) refl (turned_seen t kind out entries)
    where
      changed : Entry
      changed = record entry { kind = kind }

      go : (here : Bool) → is_at t entry ≡ here → outside x (turned t kind entries) ≡ turned t kind (outside x entries)
          → outside x (cond here (changed ∷ entries) (entry ∷ turned t kind entries)) ≡ turned t kind (outside x (entry ∷ entries))
      go true here rest =
          let kept = not_from_false _ (at_below t entry here ∙ out) in
          cond-true (is_outside x entry) _ _ kept ∙ sym (cond-true (is_at t entry) _ (entry ∷ turned t kind (outside x entries)) here)
          ∙ ap (turned t kind) (sym (cond-true (is_outside x entry) (entry ∷ outside x entries) _ kept))
      go false away rest = either (is_outside x entry)
        where
          either : (keep : Bool) → cond keep (entry ∷ outside x (turned t kind entries)) (outside x (turned t kind entries))
              ≡ turned t kind (cond keep (entry ∷ outside x entries) (outside x entries))
          either true = ap (λ more. entry ∷ more) rest ∙ sym (cond-false (is_at t entry) _ _ away)
          either false = rest

  -- and one below X is not
  turned_unseen : (t : List ℕ) (kind : Kind) → below t x ≡ true → (book : Book) → outside x (turned t kind book) ≡ outside x book
  unfolding turned
  turned_unseen t kind within [] = refl
  turned_unseen t kind within (entry ∷ entries) = go (is_at t entry) refl (turned_unseen t kind within entries)
    where
      go : (here : Bool) → is_at t entry ≡ here → outside x (turned t kind entries) ≡ outside x entries
          → outside x (cond here (record entry { kind = kind } ∷ entries) (entry ∷ turned t kind entries)) ≡ outside x (entry ∷ entries)
      go true here rest =
          let dropped = not_from_true _ (at_below t entry here ∙ within) in
          cond-false (is_outside x entry) _ _ dropped ∙ sym (cond-false (is_outside x entry) _ _ dropped)
      go false away rest = λ i. cond (is_outside x entry) (entry ∷ rest i) (rest i)

  -- on the one side, what a ruling enters or changes is below X, and on the other it is not
  abbrev pub Touches : Bool → Ruling → Type 0
  Touches side (refuses refusal) = ⊤
  Touches side (enters entry) = below entry.identifier x ≡ side
  Touches side (turns t kind answer) = below t x ≡ side
  Touches side (tells answer) = ⊤

  -- a ruling on what is not below X does the same to a book that is seen from outside X
  pub after_outside : (ruling : Ruling) → Touches false ruling → (book : Book)
      → outside x (book_after ruling book) ≡ book_after ruling (outside x book)
  after_outside (refuses refusal) out book = refl
  after_outside (enters entry) out book =
      filter-append (is_outside x) book (entry ∷ [])
      ∙ ap (λ more. outside x book ++ more) (cond-true (is_outside x entry) _ _ (not_from_false _ out))
  after_outside (turns t kind answer) out book = turned_seen t kind out book
  after_outside (tells answer) out book = refl

  -- and one on what is below X does nothing that is seen from there
  pub after_within : (ruling : Ruling) → Touches true ruling → (book : Book) → outside x (book_after ruling book) ≡ outside x book
  after_within (refuses refusal) within book = refl
  after_within (enters entry) within book =
      filter-append (is_outside x) book (entry ∷ [])
      ∙ ap (λ more. outside x book ++ more) (cond-false (is_outside x entry) _ _ (not_from_true _ within)) ∙ append-nil (outside x book)
  after_within (turns t kind answer) within book = turned_unseen t kind within book
  after_within (tells answer) within book = refl
