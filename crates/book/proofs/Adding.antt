-- Quotas add up, and nothing is given twice, at a book of which all holds.
use Rattle.std.proofs.Common.{◌≡◌, ◌≢◌, ℕ, zero, suc, ◌+◌, ◌<◌, ◌≤◌, Bool, true, false, cond, List, [], ◌∷◌, length, get_or, map, Some, None, Ok, Option, unwrap_or, refl, sym, ap, ◌∙◌, subst, arith}
use Rattle.std.specs.List.{find, sum_by, count_by, AllByRecursion, AllPairs}
use Rattle.std.specs.Option.{option_map, option_or, option_and_then, option_eq}
use Rattle.std.proofs.lemmas.Bool.{both_ways, cond-true, cond-false}
use Rattle.std.proofs.lemmas.Option.{none-some}
use Rattle.std.proofs.lemmas.List.{get_or-map, length-map}
use Rattle.std.proofs.lemmas.List.Elements.{All-from_recursion}
use Rattle.std.proofs.lemmas.List.Sums.{sum_by-cons}
use Rattle.book.specs.Kinds.{is_authority, holds_quota}
use Rattle.book.specs.Book.{Entry, Book, same, is_at, found, children}
use Rattle.book.specs.Left.{counted, used, left, left_of, told_left}
use Rattle.book.specs.Founding.{Founding, root_entry, founded}
use Rattle.book.specs.Given.{Gift}
use Rattle.book.specs.Law.{quota_in, at_founding, quota_of, count_given, still_taken, sum_taken}
use Rattle.book.specs.declared.kind.Kind.{Kind}
use Rattle.book.specs.declared.kind.Kind.TheVariants.{Panel, Retired, Offered, InHand, Open, Declined}
use Rattle.book.proofs.Identifiers.{same_itself}
use Rattle.book.proofs.Rows.{chosen, found_identifier, found_all, all_both}
use Rattle.book.proofs.Shares.{share, used_is, sum_same}
use Rattle.book.proofs.Sound.{Sound, HasParent, is_declined_at, root_takes_nothing, left_is}
use Rattle.book.proofs.Changes.{is_declined}
use Rattle.book.proofs.Ruled.{row_gift}
use Rattle.book.proofs.Counting.{sum_add, rows_found, none_passes}

sum_map : {X Y : Type 0} (f : Y → ℕ) (g : X → Y) (xs : List X) → sum_by f (map g xs) ≡ sum_by (λ x. f (g x)) xs
sum_map f g [] = refl
sum_map f g (x ∷ xs) =
    let later = sum_map f g xs in
    omega (arith, sum_by-cons f (g x) (map g xs), sum_by-cons (λ x. f (g x)) x xs, later)

-- an entry's quota is out while it is offered, in hand or open
out_is : (kind : Kind) (quota : ℕ) → cond (is_declined kind) 0 (unwrap_or (cond (is_authority kind) (Some quota) None) 0) ≡ cond (holds_quota kind) quota 0
out_is Panel quota = refl
out_is Retired quota = refl
out_is Offered quota = refl
out_is InHand quota = refl
out_is Open quota = refl
out_is Declined quota = refl

-- among the gifts of some rows, the gift of an identifier is that of the row that is found
find_gift : (identifier : List ℕ) (rows : List Entry)
    → find (λ gift. same gift.identifier identifier) (map row_gift rows) ≡ option_map row_gift (found identifier rows)
unfolding found
find_gift identifier [] = refl
find_gift identifier (row ∷ rows) =
    chosen (is_at identifier row) true false _ refl
    (λ here _. cond-true _ _ _ here ∙ ap (option_map row_gift) (sym (cond-true _ _ _ here)))
    (λ apart _. cond-false _ _ _ apart ∙ find_gift identifier rows ∙ ap (option_map row_gift) (sym (cond-false _ _ _ apart)))

found_alone : (identifier : List ℕ) (root : Entry) → found identifier (root ∷ []) ≡ cond (is_at identifier root) (Some root) None
unfolding found
found_alone identifier root = refl

pub found_first : (identifier : List ℕ) (root : Entry) (rest : List Entry)
    → found identifier (root ∷ rest) ≡ cond (is_at identifier root) (Some root) (found identifier rest)
unfolding found
found_first identifier root rest = refl

module _ (founding : Founding) (book : Book) (gifts : List Gift) (declined : List (List ℕ)) (sound : Sound founding book gifts declined) where
  -- the quota that an authority came with, by the founding or by its offer, is that of its entry
  quota_is : (authority : List ℕ) → founded founding ≡ root_entry founding ∷ []
      → quota_of (at_founding founding) gifts authority ≡ option_and_then quota_in (found authority book)
  quota_is authority good =
      (λ i. option_or (option_and_then quota_in (found authority (good i))) (offer_among (sound.gave i)))
      ∙ ap (λ there. option_or (option_and_then quota_in there) (offer_among (map row_gift sound.rest))) (found_alone authority (root_entry founding))
      ∙ chosen (is_at authority (root_entry founding)) true false _ refl
      (λ root _. ap (λ there. option_or (option_and_then quota_in there) (offer_among (map row_gift sound.rest))) (cond-true _ _ _ root)
      ∙ sym (ap (option_and_then quota_in) (first ∙ cond-true _ _ _ root)))
      (λ other _. ap (λ there. option_or (option_and_then quota_in there) (offer_among (map row_gift sound.rest))) (cond-false _ _ _ other)
      ∙ ap (option_and_then (λ gift. gift.offered)) (find_gift authority sound.rest) ∙ by_row (found authority sound.rest)
      ∙ sym (ap (option_and_then quota_in) (first ∙ cond-false _ _ _ other)))
    where
      offer_among : List Gift → Option ℕ
      offer_among among = option_and_then (λ gift. gift.offered) (find (λ gift. same gift.identifier authority) among)

      first : found authority book ≡ cond (is_at authority (root_entry founding)) (Some (root_entry founding)) (found authority sound.rest)
      first = ap (found authority) sound.is ∙ found_first authority (root_entry founding) sound.rest

      by_row : (row : Option Entry) → option_and_then (λ gift. gift.offered) (option_map row_gift row) ≡ option_and_then quota_in row
      by_row None = refl
      by_row (Some row) = refl

  -- what a gift has used up of an authority's quota: one, and what it still takes
  abbrev one_of : List ℕ → Gift → ℕ
  one_of authority gift = cond (same gift.giver authority) 1 0

  abbrev taken_of : List ℕ → Gift → ℕ
  taken_of authority gift = cond (same gift.giver authority) (still_taken declined gift) 0

  by_gift : List ℕ → Gift → ℕ
  by_gift authority gift = one_of authority gift + taken_of authority gift

  share_is : (authority : List ℕ) (row : Entry) → HasParent book row → found row.identifier book ≡ Some row
      → share authority row ≡ by_gift authority (row_gift row)
  unfolding by_gift
  share_is authority row p here =
      ap (λ parent. cond (option_eq same parent (Some authority)) (counted row) 0) p.is
      ∙ go (same p.parent authority)
      ∙ sym (ap (λ parent. by_giver (unwrap_or parent [])) p.is)
    where
      by_giver : List ℕ → ℕ
      by_giver giver = cond (same giver authority) 1 0 + cond (same giver authority) (still_taken declined (row_gift row)) 0

      out : still_taken declined (row_gift row) ≡ cond (holds_quota row.kind) row.quota 0
      out =
          ap (λ v. cond v 0 (unwrap_or (quota_in row) 0)) (sound.ended row.identifier ∙ ap is_declined_at here)
          ∙ out_is row.kind row.quota

      go : (v : Bool) → cond v (counted row) 0 ≡ cond v 1 0 + cond v (still_taken declined (row_gift row)) 0
      go true = omega (arith, out)
      go false = refl

  -- all that its children have used up, by the gifts
  used_by_gifts : (authority : List ℕ) → length founding.root ≤ length authority
      → used (children authority book) ≡ count_given authority gifts + sum_taken authority gifts declined
  unfolding by_gift
  used_by_gifts authority long =
      let rows = subst (λ rows. AllByRecursion (λ row. found row.identifier book ≡ Some row) rows) sound.is (rows_found book sound.apart) in
      let shares =
      sum_same (share authority) (λ row. by_gift authority (row_gift row)) sound.rest
      (all_both (HasParent book) (λ row. found row.identifier book ≡ Some row) _ sound.rest (share_is authority) sound.parents rows.1) in
      let all = ap (sum_by (share authority)) sound.is ∙ sum_by-cons (share authority) (root_entry founding) sound.rest in
      let both = sum_add (λ row. one_of authority (row_gift row)) (λ row. taken_of authority (row_gift row)) sound.rest in
      let ones = ap (count_given authority) sound.gave ∙ sum_map (one_of authority) row_gift sound.rest in
      let quotas = ap (λ gifts. sum_taken authority gifts declined) sound.gave ∙ sum_map (taken_of authority) row_gift sound.rest in
      omega (arith, used_is authority book, all, root_takes_nothing founding authority long, shares, both, ones, quotas)

  pub quotas : founded founding ≡ root_entry founding ∷ [] → (authority : List ℕ) (rest : ℕ) → told_left authority book ≡ Ok rest
      → quota_of (at_founding founding) gifts authority ≡ Some (rest + count_given authority gifts + sum_taken authority gifts declined)
  quotas good authority rest told = go (found authority book) refl told
    where
      go : (there : Option Entry) → found authority book ≡ there → left_of there book ≡ Ok rest
          → quota_of (at_founding founding) gifts authority ≡ Some (rest + count_given authority gifts + sum_taken authority gifts declined)
      go None here e = absurd (cc)
      go (Some entry) here e =
          chosen (is_authority entry.kind) _ _ _ e
          (λ is told.
          let left_here : left entry book ≡ rest = cc in
          let long = found_all (λ row. length founding.root ≤ length row.identifier) authority book entry sound.long here in
          let own = found_identifier authority book entry here in
          let by = used_by_gifts authority (omega (arith, long, ap length own)) in
          let used_own = ap (λ identifier. used (children identifier book)) own in
          quota_is authority good ∙ ap (option_and_then quota_in) here ∙ cond-true _ _ _ is
          ∙ ap Some (omega (arith, left_here, left_is entry book, used_own, by, sound.within authority entry here)))
          (λ _ told. absurd (cc))

  -- what came with a quota is told what it has left
  pub told : founded founding ≡ root_entry founding ∷ [] → (authority : List ℕ) (quota : ℕ)
      → quota_of (at_founding founding) gifts authority ≡ Some quota → (left : ℕ) × (told_left authority book ≡ Ok left)
  told good authority quota e = go (found authority book) (sym (quota_is authority good) ∙ e)
    where
      go : (there : Option Entry) → option_and_then quota_in there ≡ Some quota → (left : ℕ) × (left_of there book ≡ Ok left)
      go None is = absurd (none-some quota is)
      go (Some entry) is =
          chosen (is_authority entry.kind) _ _ _ is (λ authority _. (left entry book, cond-true _ _ _ authority)) (λ _ none. absurd (none-some quota none))

-- rows with identifiers apart, two by two
pub pairs_apart : (rows : List Entry) → ((identifier : List ℕ) → count_by (is_at identifier) rows ≤ 1)
    → (first second : ℕ) (d : Entry) → first < second → second < length rows
    → (get_or rows first d).identifier ≡ (get_or rows second d).identifier → ⊥
pairs_apart [] apart first second d before within is = omega (arith, before, within)
pairs_apart (row ∷ rows) apart first zero d before within is = omega (arith, before)
pairs_apart (row ∷ rows) apart zero (suc second) d before within is =
    let one = cond-true {A = ℕ} (is_at row.identifier row) 1 0 (same_itself row.identifier) in
    let all = sum_by-cons (λ other. cond (is_at row.identifier other) 1 0) row rows in
    let others = none_passes (is_at row.identifier) rows (omega (arith, apart row.identifier, one, all)) in
    let other = All-from_recursion (λ other. is_at row.identifier other ≡ false) rows others second d (omega arith) in
    both_ways _ other (ap (λ identifier. same identifier row.identifier) (sym is) ∙ same_itself row.identifier)
pairs_apart (row ∷ rows) apart (suc first) (suc second) d before within is =
    let all = λ (identifier : List ℕ). sum_by-cons (λ other. cond (is_at identifier other) 1 0) row rows in
    pairs_apart rows (λ identifier. omega (arith, all identifier, apart identifier)) first second d (omega arith) (omega arith) is

pub once : (founding : Founding) (book : Book) (gifts : List Gift) (declined : List (List ℕ)) → Sound founding book gifts declined
    → AllPairs (λ one other. one.identifier ≢ other.identifier) gifts
once founding book gifts declined sound =
    subst (AllPairs (λ one other. one.identifier ≢ other.identifier)) (sym sound.gave) (λ first second d before within is.
    let root = root_entry founding in
    let long = length-map sound.rest row_gift in
    let one = get_or-map row_gift sound.rest first root d (omega (arith, long)) in
    let other = get_or-map row_gift sound.rest second root d (omega (arith, long)) in
    let apart = subst (λ rows. (identifier : List ℕ) → count_by (is_at identifier) rows ≤ 1) sound.is sound.apart in
    pairs_apart (root ∷ sound.rest) apart (suc first) (suc second) root (omega arith) (omega (arith, long))
    (ap (λ gift. gift.identifier) (sym one) ∙ is ∙ ap (λ gift. gift.identifier) other))
