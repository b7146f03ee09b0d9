-- Who is in hand is held, and only they; and a Grant that is held is spent.
use Rattle.std.proofs.Common.{◌≡◌, ℕ, suc, ◌+◌, ◌<◌, ◌≤◌, Bool, true, false, cond, not, ◌==◌, is_some, List, [], ◌∷◌, ◌++◌, length, get_or, take, drop, position, remove, slice_get, Some, None, Option, refl, sym, ap, ◌∙◌, subst, ⊎_elim, arith}
use Rattle.std.specs.List.{count_by, list_all, position_or_len}
use Rattle.std.specs.Option.{option_map, option_and_then}
use Rattle.std.proofs.lemmas.Bool.{both_ways, and_parts, and_from, cond-true, ltb-true, ltb-false, eq-eqb}
use Rattle.std.proofs.lemmas.Option.{cond_some, none-some, slice_get_within, slice_get_cases, get_or_from_slice_get}
use Rattle.std.proofs.lemmas.List.{append-nil, length-append, take-append-drop, drop_more}
use Rattle.std.proofs.lemmas.List.Sums.{sum_by-cons, sum_by-append}
use Rattle.std.proofs.lemmas.List.Folds.{list_all-append}
use Rattle.std.proofs.lemmas.List.Quantifiers.{position-Some}
use Rattle.book.specs.Kinds.{next_kind}
use Rattle.book.specs.Book.{Entry, Book, same, found}
use Rattle.book.specs.Calls.{Call, accept_grant, decline_grant}
use Rattle.book.specs.Rulings.{refused, named, refuses, turns, answer_of, book_after, turned, there_is}
use Rattle.book.specs.Questions.{Rules, spending, ruling, answer, after}
use Rattle.book.specs.Changes.{with_next}
use Rattle.book.specs.Grants.{spent, IsOwn, DoesAs}
use Rattle.book.specs.declared.kind.Kind.{Kind}
use Rattle.book.specs.declared.kind.Kind.TheVariants.{InHand, Open, Declined}
use Rattle.book.specs.declared.event.Event.{Event}
use Rattle.book.specs.declared.event.Event.TheVariants.{AcceptGrant, DeclineGrant}
use Rattle.book.specs.declared.refusal.Refusal.TheVariants.{NotInHand}
use Rattle.book.proofs.Identifiers.{same_true, same_itself, apart}
use Rattle.book.proofs.Rows.{chosen, of_kind, found_identifier}
use Rattle.book.proofs.OwnGrants.{found_in_row, own_grants}
use Rattle.runs.specs.Hands.{Held, is_for, is_own, kind_in_hand, in_hand, found_in_hand, is_in_hand, flag, AllOwn, Hands}
use Rattle.runs.proofs.Owned.{own_from, all_own_after}
use Rattle.runs.proofs.Moves.{Moves, ends_hand, gives_hand, hand_before, turned_moves}

-- ---- who is held

flag_none : (v : Bool) → flag v ≡ 0 → v ≡ false
flag_none true none = absurd (omega (arith, none))
flag_none false none = refl

flag_some : (v : Bool) → 1 ≤ flag v → v ≡ true
flag_some true some = refl
flag_some false some = absurd (omega (arith, some))

-- where no place is the first that passes, none passes
none_counts : {X : Type 0} (test : X → Bool) (xs : List X) → length xs ≤ position_or_len test xs → count_by test xs ≡ 0
none_counts test [] long = refl
none_counts test (x ∷ xs) long =
    let sum = sum_by-cons (λ x. flag (test x)) x xs in
    chosen (test x) true false _ refl
    (λ passes _. let first = ap (λ v. cond (not v) (1 + position_or_len test xs) 0) passes in absurd (omega (arith, first, long)))
    (λ fails _.
    let first = ap (λ v. cond (not v) (1 + position_or_len test xs) 0) fails in
    let none = ap flag fails in
    let later = none_counts test xs (omega (arith, first, long)) in
    omega (arith, sum, none, later))

-- the Grant in the first place that is for T
pub held_at : (t : List ℕ) (held : List Held) (index : ℕ) → position (is_for t) held ≡ Some index
    → (one : Held) × (slice_get held index ≡ Some one) × (one.identifier ≡ t)
held_at t held index first = ⊎_elim within past (slice_get_cases held index).1
  where
    within : (one : Held) × (index < length held) × (slice_get held index ≡ Some one) × (get_or held index one ≡ one)
        → (one : Held) × (slice_get held index ≡ Some one) × (one.identifier ≡ t)
    within it =
        let passes = (position-Some (is_for t) held index it.0 first).1 in
        (it.0, it.2, same_true it.0.identifier t (sym (ap (is_for t) it.3) ∙ passes))

    past : (length held ≤ index) × (slice_get held index ≡ None) → (one : Held) × (slice_get held index ≡ Some one) × (one.identifier ≡ t)
    past it =
        let was = cond_some _ _ index first in
        absurd (omega (arith, ltb-true _ _ was.0, was.1, it.0))

-- a list is what stands before one of its places, what stands in it, and what stands behind it
pub split_at : (held : List Held) (index : ℕ) (one : Held) → slice_get held index ≡ Some one → held ≡ take index held ++ one ∷ drop (index + 1) held
split_at held index one there =
    sym (take-append-drop index held)
    ∙ ap (λ rest. take index held ++ rest)
    (drop_more held index one (slice_get_within held index one there)
    ∙ ap (λ one. one ∷ drop (index + 1) held) (get_or_from_slice_get held index one one there))

module _ (serial : ℕ) (book : Book) (held : List Held) (hands : Hands serial book held) where
  -- one that is held is in hand
  split_in_hand : (front back : List Held) (one : Held) → held ≡ front ++ one ∷ back → is_in_hand one.identifier book ≡ true
  split_in_hand front back one is =
      let t = one.identifier in
      let count = ap (count_by (is_for t)) is in
      let parts = sum_by-append (λ one. flag (is_for t one)) front (one ∷ back) in
      let first = sum_by-cons (λ one. flag (is_for t one)) one back in
      let own = ap flag (same_itself t) in
      let once = hands.each_once t in
      flag_some (is_in_hand t book) (omega (arith, count, parts, first, own, once))

  pub held_in_hand : (index : ℕ) (one : Held) → slice_get held index ≡ Some one → is_in_hand one.identifier book ≡ true
  held_in_hand index one there = split_in_hand (take index held) (drop (index + 1) held) one (split_at held index one there)

  pub some_in_hand : (t : List ℕ) (index : ℕ) → position (is_for t) held ≡ Some index → is_in_hand t book ≡ true
  some_in_hand t index first =
      let it = held_at t held index first in
      ap (λ t. is_in_hand t book) (sym it.2) ∙ held_in_hand index it.0 it.1

  pub none_in_hand : (t : List ℕ) → position (is_for t) held ≡ None → is_in_hand t book ≡ false
  none_in_hand t none =
      let far : length held ≤ position_or_len (is_for t) held =
      chosen _ _ _ _ none (λ _ some. absurd (none-some _ (sym some))) (λ far _. ltb-false _ _ far) in
      flag_none (is_in_hand t book) (sym (hands.each_once t) ∙ none_counts (is_for t) held far)

  -- who is in hand is held, and only they
  pub held_is : (t : List ℕ) → is_some (position (is_for t) held) ≡ is_in_hand t book
  held_is t = go (position (is_for t) held) refl
    where
      go : (first : Option ℕ) → position (is_for t) held ≡ first → is_some first ≡ is_in_hand t book
      go None none = sym (none_in_hand t none)
      go (Some index) first = sym (some_in_hand t index first)

-- ---- what is not in hand

spends_none : (book : Book) (t : List ℕ) (event : Event) → ends_hand event ≡ true → is_in_hand t book ≡ false
    → spending book t event ≡ refuses NotInHand
unfolding there_is
spends_none book t event ends out = go (found t book) out
  where
    next : (entry : Entry) (kind : Option Kind) → next_kind entry.kind event ≡ kind → in_hand entry ≡ false
        → there_is NotInHand kind (λ kind. turns t kind (named t)) ≡ refuses NotInHand
    next entry None is out = refl
    next entry (Some kind) is out = absurd (both_ways (in_hand entry) out (hand_before entry.kind event kind is ∙ ends))

    go : (there : Option Entry) → found_in_hand there ≡ false
        → there_is NotInHand there (λ entry. there_is NotInHand (next_kind entry.kind event) (λ kind. turns t kind (named t))) ≡ refuses NotInHand
    go None out = refl
    go (Some entry) out = next entry (next_kind entry.kind event) refl out

-- a call that names no Grant that is out is refused, and changes nothing
pub record Refuses (rules : Rules) (book : Book) (call : Call) : Type 0 where
  pub answers : answer rules book call ≡ refused NotInHand
  pub leaves : after rules book call ≡ book

pub out_refuses : (rules : Rules) (book : Book) (t : List ℕ) → is_in_hand t book ≡ false
    → Refuses rules book (accept_grant t) × Refuses rules book (decline_grant t)
out_refuses rules book t out = (
  record { answers = ap answer_of (spends_none book t AcceptGrant refl out); leaves = ap (λ r. book_after r book) (spends_none book t AcceptGrant refl out) },
  record { answers = ap answer_of (spends_none book t DeclineGrant refl out); leaves = ap (λ r. book_after r book) (spends_none book t DeclineGrant refl out) },
)

pub none_refuses : (rules : Rules) (serial : ℕ) (book : Book) (held : List Held) (t : List ℕ) → Hands serial book held
    → position (is_for t) held ≡ None → Refuses rules book (accept_grant t) × Refuses rules book (decline_grant t)
none_refuses rules serial book held t hands none = out_refuses rules book t (none_in_hand serial book held hands t none)

-- ---- what is in hand

-- spending one of the Grants that are out passes, and the others are those that are out then
pub record Spends (rules : Rules) (serial : ℕ) (book : Book) (one : Held) (rest : List Held) (event : Event) (call : Call) : Type 0 where
  pub entry : Entry
  pub spends : spent serial book one.grant event ≡ Some entry
  pub identifier : entry.identifier ≡ one.identifier
  pub answers : answer rules book call ≡ named one.identifier
  pub does : DoesAs rules serial book one.grant event call
  pub keeps : Hands serial (after rules book call) rest

abbrev pub SpendsBoth : Rules → ℕ → Book → Held → List Held → Type 0
SpendsBoth rules serial book one rest =
    Spends rules serial book one rest AcceptGrant (accept_grant one.identifier)
    × Spends rules serial book one rest DeclineGrant (decline_grant one.identifier)

hand_next : (kind : Kind) (event : Event) → kind_in_hand kind ≡ true → ends_hand event ≡ true → (next : Kind) × (next_kind kind event ≡ Some next)
hand_next InHand AcceptGrant is ends = (Open, refl)
hand_next InHand DeclineGrant is ends = (Declined, refl)
hand_next InHand event is ends = absurd (both_ways _ refl ends)
hand_next kind event is ends = absurd (both_ways _ refl is)

spends_some : (book : Book) (t : List ℕ) (event : Event) (entry : Entry) (kind : Kind) → found t book ≡ Some entry
    → next_kind entry.kind event ≡ Some kind → spending book t event ≡ turns t kind (named t)
unfolding there_is
spends_some book t event entry kind here next =
    ap (λ there. there_is NotInHand there (λ entry. there_is NotInHand (next_kind entry.kind event) (λ kind. turns t kind (named t)))) here
    ∙ ap (λ next. there_is NotInHand next (λ kind. turns t kind (named t))) next

module _ (rules : Rules) (serial : ℕ) (book : Book) (front back : List Held) (one : Held) (hands : Hands serial book (front ++ one ∷ back)) where
  its_own : IsOwn serial book one.identifier one.grant
  its_own =
      let parts = and_parts (list_all (is_own serial book) front) _ (sym (list_all-append (is_own serial book) front (one ∷ back)) ∙ hands.own) in
      own_from serial book one (and_parts (is_own serial book one) _ parts.1).0

  rest_keeps : (later : Book) → Moves one.identifier true false book later → AllOwn serial later (front ++ one ∷ back)
      → Hands serial later (front ++ back)
  rest_keeps later moves own =
      let parts = and_parts (list_all (is_own serial later) front) _ (sym (list_all-append (is_own serial later) front (one ∷ back)) ∙ own) in
      let behind = and_parts (is_own serial later one) _ parts.1 in
      record {
        own = list_all-append (is_own serial later) front back ∙ and_from _ _ parts.0 behind.1;
        each_once = λ other.
            let before = hands.each_once other in
            let with_it = sum_by-append (λ one. flag (is_for other one)) front (one ∷ back) in
            let first = sum_by-cons (λ one. flag (is_for other one)) one back in
            let without = sum_by-append (λ one. flag (is_for other one)) front back in
            chosen (same one.identifier other) true false _ refl
            (λ here _.
            let is = same_true one.identifier other here in
            let was = ap flag (ap (λ t. is_in_hand t book) (sym is) ∙ moves.was) in
            let now = ap flag (ap (λ t. is_in_hand t later) (sym is) ∙ moves.is) in
            let taken = ap flag here in
            omega (arith, before, with_it, first, without, was, now, taken))
            (λ different _.
            let stays = ap flag (moves.others other (λ is. apart one.identifier other different (sym is))) in
            let kept = ap flag different in
            omega (arith, before, with_it, first, without, stays, kept));
        as_many =
            let with_it = length-append front (one ∷ back) in
            let without = length-append front back in
            omega (arith, hands.as_many, with_it, without, moves.count);
      }

  spends_by : (event : Event) (call : Call) → ends_hand event ≡ true → gives_hand event ≡ false
      → ruling rules book call ≡ spending book one.identifier event → DoesAs rules serial book one.grant event call
      → Spends rules serial book one (front ++ back) event call
  spends_by event call ends gives rules_are does =
      let t = one.identifier in
      let own = its_own in
      let here = found_in_row t book one.grant.row own.first ∙ own.stands in
      let in_hand_now = sym (ap found_in_hand here) ∙ split_in_hand serial book (front ++ one ∷ back) hands front back one refl in
      let next = hand_next own.entry.kind event in_hand_now ends in
      let becomes = rules_are ∙ spends_some book t event own.entry next.0 here next.1 in
      let leaves : after rules book call ≡ turned t next.0 book = ap (λ r. book_after r book) becomes in
      let moves = turned_moves t event next.0 book own.entry here next.1 in
      record {
        entry = of_kind next.0 own.entry;
        spends = cond-true (one.grant.serial == serial) _ None (eq-eqb _ _ own.its_serial)
            ∙ ap (option_and_then (with_next event)) own.stands ∙ ap (option_map (λ kind. of_kind kind own.entry)) next.1;
        identifier = found_identifier t book own.entry here;
        answers = ap answer_of becomes;
        does = does;
        keeps = rest_keeps (after rules book call)
            (subst (Moves t true false book) (sym leaves)
            (subst (λ v. Moves t v false book (turned t next.0 book)) ends
            (subst (λ v. Moves t (ends_hand event) v book (turned t next.0 book)) gives moves)))
            (all_own_after rules serial book call (front ++ one ∷ back) hands.own);
      }

  spends_both : SpendsBoth rules serial book one (front ++ back)
  spends_both =
      let both = own_grants rules serial book one.identifier one.grant its_own in (
        spends_by AcceptGrant (accept_grant one.identifier) refl refl refl both.0,
        spends_by DeclineGrant (decline_grant one.identifier) refl refl refl both.1,
      )

-- the Grant in any place
pub spends_at : (rules : Rules) (serial : ℕ) (book : Book) (held : List Held) (index : ℕ) (one : Held) → Hands serial book held
    → slice_get held index ≡ Some one → SpendsBoth rules serial book one (remove held index)
spends_at rules serial book held index one hands there =
    let on : index + 1 ≡ suc index = omega arith in
    subst (λ on. SpendsBoth rules serial book one (take index held ++ drop on held)) on
    (spends_both rules serial book (take index held) (drop (index + 1) held) one (subst (Hands serial book) (split_at held index one there) hands))

-- the first that is for T
pub spends_first : (rules : Rules) (serial : ℕ) (book : Book) (held : List Held) (t : List ℕ) (index : ℕ) → Hands serial book held
    → position (is_for t) held ≡ Some index
    → (one : Held) × (slice_get held index ≡ Some one) × (one.identifier ≡ t) × SpendsBoth rules serial book one (remove held index)
spends_first rules serial book held t index hands first =
    let it = held_at t held index first in
    (it.0, it.1, it.2, spends_at rules serial book held index it.0 hands it.1)

-- the last
pub spends_last : (rules : Rules) (serial : ℕ) (book : Book) (held rest : List Held) (one : Held) → Hands serial book held
    → held ≡ rest ++ one ∷ [] → SpendsBoth rules serial book one rest
spends_last rules serial book held rest one hands is =
    subst (SpendsBoth rules serial book one) (append-nil rest)
    (spends_both rules serial book rest [] one (subst (Hands serial book) is hands))
