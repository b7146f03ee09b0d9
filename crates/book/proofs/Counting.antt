-- The entries of a book and what they have left, counted together.
use Rattle.std.proofs.Common.{◌≡◌, ℕ, ◌+◌, ◌≤◌, Bool, true, false, cond, List, [], ◌∷◌, length, Some, refl, sym, ap, ◌∙◌, arith}
use Rattle.std.specs.List.{sum_by, count_by, AllByRecursion}
use Rattle.std.proofs.lemmas.Bool.{both_ways, cond-true, cond-false, false_from_ne_true}
use Rattle.std.proofs.lemmas.Option.{none-some, same_Some}
use Rattle.std.proofs.lemmas.List.Sums.{sum_by-cons}
use Rattle.book.specs.Kinds.{is_open, holds_quota}
use Rattle.book.specs.Book.{Entry, Book, same, is_at, found, is_child, children}
use Rattle.book.specs.Left.{counted, used, left}
use Rattle.book.specs.Founding.{Founding, root_entry}
use Rattle.book.specs.Ranges.{most_quota}
use Rattle.book.specs.Given.{Gift}
use Rattle.book.specs.Beneath.{all_left}
use Rattle.book.specs.declared.kind.Kind.{Kind}
use Rattle.book.specs.declared.kind.Kind.TheVariants.{Open}
use Rattle.book.proofs.Identifiers.{same_true, same_itself, child_true, child_from}
use Rattle.book.proofs.Rows.{chosen, found_identifier, all_weaker, all_of, all_both}
use Rattle.book.proofs.Shares.{share, used_is, sum_same, sum_none}
use Rattle.book.proofs.Room.{HasRoom}
use Rattle.book.proofs.Sound.{Sound, HasParent, root_takes_nothing, left_is}

-- ---- sums

pub sum_add : {X : Type 0} (f g : X → ℕ) (xs : List X) → sum_by (λ x. f x + g x) xs ≡ sum_by f xs + sum_by g xs
sum_add f g [] = refl
sum_add f g (x ∷ xs) =
    let later = sum_add f g xs in
    omega (arith, sum_by-cons f x xs, sum_by-cons g x xs, sum_by-cons (λ x. f x + g x) x xs, later)

-- a sum of sums, summed the other way
sum_swap : {X Y : Type 0} (f : X → Y → ℕ) (xs : List X) (ys : List Y) → sum_by (λ x. sum_by (f x) ys) xs ≡ sum_by (λ y. sum_by (λ x. f x y) xs) ys
sum_swap f [] ys = sym (sum_none (λ _. 0) ys (all_of _ (λ _. refl) ys))
sum_swap f (x ∷ xs) ys =
    let later = sum_swap f xs ys in
    sum_by-cons (λ x. sum_by (f x) ys) x xs ∙ ap (λ n. sum_by (f x) ys + n) later ∙ sym (sum_add (f x) (λ y. sum_by (λ x. f x y) xs) ys)
    ∙ sym (sum_same (λ y. sum_by (λ x. f x y) (x ∷ xs)) (λ y. f x y + sum_by (λ x. f x y) xs) ys (all_of _ (λ y. sum_by-cons (λ x. f x y) x xs) ys))

-- ---- rows with identifiers apart

-- where nothing passes, each fails
pub none_passes : {X : Type 0} (test : X → Bool) (xs : List X) → count_by test xs ≡ 0 → AllByRecursion (λ x. test x ≡ false) xs
none_passes test [] none = tt
none_passes test (x ∷ xs) none =
    let all = sum_by-cons (λ x. cond (test x) 1 0) x xs in (
      chosen (test x) true false _ refl
          (λ passes _. let one = cond-true {A = ℕ} (test x) 1 0 passes in absurd (omega (arith, all, none, one))) (λ fails _. fails),
      none_passes test xs (omega (arith, all, none)),
    )

-- each row is what its identifier finds
pub rows_found : (rows : List Entry) → ((identifier : List ℕ) → count_by (is_at identifier) rows ≤ 1)
    → AllByRecursion (λ row. found row.identifier rows ≡ Some row) rows
unfolding found
rows_found [] apart = tt
rows_found (row ∷ rows) apart =
    let own = same_itself row.identifier in
    let first = λ (identifier : List ℕ). sum_by-cons (λ row. cond (is_at identifier row) 1 0) row rows in
    let later = rows_found rows (λ identifier. omega (arith, first identifier, apart identifier)) in
    let one = cond-true {A = ℕ} (is_at row.identifier row) 1 0 own in
    let others = none_passes (is_at row.identifier) rows (omega (arith, first row.identifier, apart row.identifier, one)) in (
      cond-true _ _ _ own,
      all_both (λ other. is_at row.identifier other ≡ false) (λ other. found other.identifier rows ≡ Some other) _ rows
          (λ other no_row is. cond-false _ _ _ (apart_back other no_row) ∙ is) others later,
    )
  where
    apart_back : (other : Entry) → is_at row.identifier other ≡ false → is_at other.identifier row ≡ false
    apart_back other apart =
        false_from_ne_true _ (λ here.
        both_ways _ apart (ap (λ identifier. same other.identifier identifier) (same_true _ _ here) ∙ same_itself other.identifier))

-- of a sum in which only the rows with one identifier count, the row that is found is all
sum_found : (g : Entry → ℕ) (identifier : List ℕ) (book : Book) (entry : Entry) → found identifier book ≡ Some entry
    → count_by (is_at identifier) book ≤ 1 → ((other : Entry) → is_at identifier other ≡ false → g other ≡ 0) → sum_by g book ≡ g entry
unfolding found
sum_found g identifier [] entry e apart others = absurd (none-some entry e)
sum_found g identifier (row ∷ rows) entry e apart others =
    let count = sum_by-cons (λ row. cond (is_at identifier row) 1 0) row rows in
    let sum = sum_by-cons g row rows in
    chosen (is_at identifier row) _ _ _ e
    (λ here is.
    let one = cond-true {A = ℕ} (is_at identifier row) 1 0 here in
    let none = none_passes (is_at identifier) rows (omega (arith, count, apart, one)) in
    let nothing = sum_none g rows (all_weaker (λ row. is_at identifier row ≡ false) (λ row. g row ≡ 0) rows others none) in
    omega (arith, sum, nothing, ap g (same_Some row entry is)))
    (λ other is.
    let zero = cond-false {A = ℕ} (is_at identifier row) 1 0 other in
    let later = sum_found g identifier rows entry is (omega (arith, count, apart, zero)) others in
    omega (arith, sum, later, others row other))

-- ---- the count

open_holds : (kind : Kind) → is_open kind ≡ true → holds_quota kind ≡ true
open_holds Open opened = refl
open_holds kind opened = absurd (both_ways false refl opened)

-- an entry's own quota, what its children have used up of it, and what it has left, while it is offered, in hand or open
abbrev own_quota : Entry → ℕ
own_quota entry = cond (holds_quota entry.kind) entry.quota 0

abbrev own_used : Book → Entry → ℕ
own_used book entry = cond (holds_quota entry.kind) (used (children entry.identifier book)) 0

abbrev own_left : Book → Entry → ℕ
own_left book entry = cond (holds_quota entry.kind) (left entry book) 0

module _ (founding : Founding) (book : Book) (before : List Gift) (declined : List (List ℕ)) (sound : Sound founding book before declined) where
  root : Entry
  root = root_entry founding

  -- nobody has used up more than the quota, row by row
  rows_within : AllByRecursion (λ row. used (children row.identifier book) ≤ row.quota) book
  rows_within = all_weaker (λ row. found row.identifier book ≡ Some row) _ book (λ row is. sound.within row.identifier row is) (rows_found book sound.apart)

  -- what is left and what is used up make the quotas
  left_and_used : all_left book + sum_by (own_used book) book ≡ sum_by own_quota book
  left_and_used =
      sym (sum_add (own_left book) (own_used book) book)
      ∙ sum_same (λ row. own_left book row + own_used book row) own_quota book
      (all_weaker (λ row. used (children row.identifier book) ≤ row.quota) _ book adds rows_within)
    where
      adds : (row : Entry) → used (children row.identifier book) ≤ row.quota → own_left book row + own_used book row ≡ own_quota row
      adds row within = go (holds_quota row.kind)
        where
          go : (v : Bool) → cond v (left row book) 0 + cond v (used (children row.identifier book)) 0 ≡ cond v row.quota 0
          go true = let is = left_is row book in omega (arith, is, within)
          go false = refl

  -- what a row takes from the quotas of all others: nothing, if it is the root; and all that it counts from its parent's, if it is not
  taken_by : Entry → ℕ
  taken_by row = sum_by (λ above. cond (holds_quota above.kind) (share above.identifier row) 0) book

  cond_none : (v : Bool) (n : ℕ) → n ≡ 0 → cond v n 0 ≡ 0
  cond_none true n none = none
  cond_none false n none = refl

  root_takes : taken_by root ≡ 0
  unfolding taken_by root
  root_takes =
      sum_none _ book (all_weaker (λ row. length founding.root ≤ length row.identifier) _ book
      (λ above long. cond_none (holds_quota above.kind) _ (root_takes_nothing founding above.identifier long)) sound.long)

  row_takes : (row : Entry) → HasParent book row → taken_by row ≡ counted row
  unfolding taken_by
  row_takes row p =
      sum_found (λ above. cond (holds_quota above.kind) (share above.identifier row) 0) p.parent book p.authority p.here (sound.apart p.parent) others
      ∙ cond-true _ _ _ (open_holds p.authority.kind p.opened)
      ∙ cond-true _ _ _ (child_from p.authority.identifier row (p.is ∙ ap Some (sym (found_identifier p.parent book p.authority p.here))))
    where
      others : (other : Entry) → is_at p.parent other ≡ false → cond (holds_quota other.kind) (share other.identifier row) 0 ≡ 0
      others other apart =
          cond_none (holds_quota other.kind) _
          (chosen (is_child other.identifier row) true false _ refl
          (λ child _.
          let parent : p.parent ≡ other.identifier = same_Some _ _ (sym p.is ∙ child_true other.identifier row child) in
          absurd (both_ways _ apart (ap (same other.identifier) parent ∙ same_itself other.identifier)))
          (λ not_child _. cond-false _ _ _ not_child))

  -- so all that is used up is what the rows after the root count
  used_by_rest : sum_by (own_used book) book ≡ sum_by counted sound.rest
  unfolding taken_by root
  used_by_rest =
      sum_same (own_used book) (λ above. sum_by (λ row. cond (holds_quota above.kind) (share above.identifier row) 0) book) book (all_of _ each book)
      ∙ sum_swap (λ above row. cond (holds_quota above.kind) (share above.identifier row) 0) book book
      ∙ ap (sum_by taken_by) sound.is
      ∙ (let first = sum_by-cons taken_by (root_entry founding) sound.rest in
      let later = sum_same taken_by counted sound.rest (all_weaker (HasParent book) _ sound.rest row_takes sound.parents) in
      omega (arith, first, root_takes, later))
    where
      each : (above : Entry) → own_used book above ≡ sum_by (λ row. cond (holds_quota above.kind) (share above.identifier row) 0) book
      each above = go (holds_quota above.kind)
        where
          go : (v : Bool) → cond v (used (children above.identifier book)) 0 ≡ sum_by (λ row. cond v (share above.identifier row) 0) book
          go true = used_is above.identifier book
          go false = sym (sum_none _ book (all_of _ (λ _. refl) book))

  -- the rows after the root count one each, and their own quotas
  counted_apart : (rows : List Entry) → sum_by counted rows ≡ length rows + sum_by own_quota rows
  counted_apart [] = refl
  counted_apart (row ∷ rows) =
      let later = counted_apart rows in
      omega (arith, sum_by-cons counted row rows, sum_by-cons own_quota row rows, later)

  pub adds_up : length book + all_left book ≡ 1 + founding.quota
  adds_up =
      let quotas = ap (sum_by own_quota) sound.is ∙ sum_by-cons own_quota (root_entry founding) sound.rest in
      let long : length book ≡ 1 + length sound.rest = let len = ap length sound.is in omega (arith, len) in
      omega (arith, left_and_used, used_by_rest, counted_apart sound.rest, quotas, long)

  -- what one has left, all have left
  left_among : (authority : Entry) (rows : List Entry) (identifier : List ℕ) → found identifier rows ≡ Some authority
      → is_open authority.kind ≡ true → left authority book ≤ sum_by (own_left book) rows
  unfolding found
  left_among authority [] identifier e opened = absurd (none-some authority e)
  left_among authority (row ∷ rows) identifier e opened =
      let all = sum_by-cons (own_left book) row rows in
      chosen (is_at identifier row) _ _ _ e
      (λ _ is.
      let holds = cond-true {A = ℕ} _ (left authority book) 0 (open_holds authority.kind opened) in
      omega (arith, all, holds, ap (own_left book) (same_Some row authority is)))
      (λ _ is. let later = left_among authority rows identifier is opened in omega (arith, all, later))

  -- so where somebody has 1 left, there is room
  pub makes_room : founding.quota ≤ most_quota → HasRoom book
  makes_room quota = record {
    room = λ o authority here opened some.
        omega (arith, adds_up, left_among authority book o here opened, some, quota);
  }
