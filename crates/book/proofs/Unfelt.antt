-- What a call that is not placed at or below X comes to, at two books that are the same seen from outside X.
use Rattle.std.proofs.Common.{◌≡◌, ℕ, ◌+◌, ◌-◌, ◌≤◌, Bool, true, false, cond, List, length, Some, None, Ok, Err, Option, nat_le, nat_lt, refl, sym, ap, ◌∙◌, arith, ◌==◌}
use Rattle.std.specs.Option.{option_and_then}
use Rattle.std.proofs.lemmas.Bool.{and_left, leb-true, lt-ltb}
use Rattle.oid.specs.Tree.{parent_of, at_or_below, below, most_arcs}
use Rattle.arc_rules.specs.Laws.{SameArcs}
use Rattle.book.specs.Kinds.{is_authority, is_open, next_kind}
use Rattle.book.specs.Book.{Entry, Book, most_entries, found, parent_in, children}
use Rattle.book.specs.Left.{used, left, left_of, told_left}
use Rattle.book.specs.Order.{in_order, from_arc}
use Rattle.book.specs.Calls.{Call, grant, claim, offer, accept, decline, retire, roll, collect, accept_grant, decline_grant, place_of}
use Rattle.book.specs.Rulings.{enters, turns, tells, Answer, named, listed, ask, there_is}
use Rattle.book.specs.Questions.{Rules, Finder, as_holder, giving, panel_below, offer_below, turning, is_held_by, spending, ruling}
use Rattle.book.specs.Law.{is_within, outside}
use Rattle.book.specs.declared.event.Event.{Event}
use Rattle.book.specs.declared.event.Event.TheVariants.{Accept, Decline, Retire, Collect, AcceptGrant, DeclineGrant}
use Rattle.book.specs.declared.refusal.Refusal.TheVariants.{NotInBook, WrongKind, NotHolder, TooDeep, TooLittleLeft, BookFull, NotInHand}
use Rattle.book.proofs.Identifiers.{below_by_parent}
use Rattle.book.proofs.Room.{HasRoom}
use Rattle.book.proofs.Asking.{ask-cong, there_is-cong}
use Rattle.book.proofs.Finding.{FindAlike, lowest_free-alike, claimed-alike}
use Rattle.book.proofs.Rows.{found_identifier}
use Rattle.book.proofs.Outside.{found_outside, children_outside}

module _ (x : List ℕ) (long : 2 ≤ length x) (book second : Book) (agree : outside x book ≡ outside x second) where
  found-same : (t : List ℕ) → below t x ≡ false → found t book ≡ found t second
  found-same t out = sym (found_outside x t out book) ∙ ap (found t) agree ∙ found_outside x t out second

  children-same : (o : List ℕ) → at_or_below o x ≡ false → children o book ≡ children o second
  children-same o out = sym (children_outside x long o out book) ∙ ap (children o) agree ∙ children_outside x long o out second

  found_place-same : (o : List ℕ) → at_or_below o x ≡ false → found o book ≡ found o second
  found_place-same o out = found-same o (and_left _ _ out)

  parent-same : (t : List ℕ) → is_within x (parent_of t) ≡ false → parent_in t book ≡ parent_in t second
  parent-same t out = go (parent_of t) out
    where
      go : (parent : Option (List ℕ)) → is_within x parent ≡ false
          → option_and_then (λ parent. found parent book) parent ≡ option_and_then (λ parent. found parent second) parent
      go None out = refl
      go (Some parent) out = found_place-same parent out

  left-same : (authority : Entry) → at_or_below authority.identifier x ≡ false → left authority book ≡ left authority second
  unfolding left
  left-same authority out = ap (λ below. authority.quota - used below) (children-same authority.identifier out)

  pub told_left-same : (o : List ℕ) → at_or_below o x ≡ false → told_left o book ≡ told_left o second
  told_left-same o out = go (found o book) refl
    where
      go : (there : Option Entry) → found o book ≡ there → told_left o book ≡ told_left o second
      go None is = ap (λ there. left_of there book) is ∙ ap (λ there. left_of there second) (sym is ∙ found_place-same o out)
      go (Some entry) is =
          ap (λ there. left_of there book) is
          ∙ ap (λ left. cond (is_authority entry.kind) (Ok left) (Err WrongKind))
          (left-same entry (ap (λ identifier. at_or_below identifier x) (found_identifier o book entry is) ∙ out))
          ∙ ap (λ there. left_of there second) (sym is ∙ found_place-same o out)

  turning-same : (t : List ℕ) (event : Event) (right rightly : Entry → Bool) (answer : Entry → Answer) → is_within x (parent_of t) ≡ false
      → ((entry : Entry) → right entry ≡ rightly entry) → turning book t event right answer ≡ turning second t event rightly answer
  turning-same t event right rightly answer out same =
      λ i. there_is NotInBook (found-same t (below_by_parent t x long ∙ out) i) (λ entry.
      there_is WrongKind (next_kind entry.kind event) (λ kind. ask NotHolder (same entry i) (turns t kind (answer entry))))

  spending-same : (t : List ℕ) (event : Event) → is_within x (parent_of t) ≡ false → spending book t event ≡ spending second t event
  spending-same t event out =
      ap (λ thing. there_is NotInHand thing (λ entry. there_is NotInHand (next_kind entry.kind event) (λ kind. turns t kind (named t))))
      (found-same t (below_by_parent t x long ∙ out))

  rolling-same : (holder : ℕ) (o : List ℕ) (from : ℕ) → at_or_below o x ≡ false
      → as_holder book holder o (λ authority. tells (listed o (from_arc from (in_order (children o book)))))
      ≡ as_holder second holder o (λ authority. tells (listed o (from_arc from (in_order (children o second)))))
  rolling-same holder o from out =
      λ i. there_is NotInBook (found_place-same o out i) (λ authority. ask WrongKind (is_open authority.kind)
      (ask NotHolder (holder == authority.holder) (tells (listed o (from_arc from (in_order (children-same o out i)))))))

  module _ (room : HasRoom book) (second_room : HasRoom second) where
    -- from 18 on: where enough is left, neither book is too full
    entering-same : (o : List ℕ) (needed : ℕ) (one other : Finder) (made : Entry → ℕ → Entry) → at_or_below o x ≡ false → 1 ≤ needed
        → FindAlike one other → (authority : Entry) → found o book ≡ Some authority → is_open authority.kind ≡ true
        → ask TooLittleLeft (nat_le needed (left authority book))
        (one (children o book) (λ arc. ask BookFull (nat_lt (length book) most_entries) (enters (made authority arc))))
        ≡ ask TooLittleLeft (nat_le needed (left authority second))
        (other (children o second) (λ arc. ask BookFull (nat_lt (length second) most_entries) (enters (made authority arc))))
    entering-same o needed one other made out some alike authority is may_give =
        ask-cong TooLittleLeft _ _ (ap (nat_le needed) left_same) (λ enough.
        let left_one : 1 ≤ left authority book = omega (arith, some, leb-true needed (left authority book) enough) in
        let left_other : 1 ≤ left authority second = omega (arith, left_one, left_same) in
        let few = lt-ltb (length book) most_entries (room.room o authority is may_give left_one) in
        let second_is = sym (found_place-same o out) ∙ is in
        let second_few = lt-ltb (length second) most_entries (second_room.room o authority second_is may_give left_other) in
        alike (children o book) _ _ (λ arc. ap (λ holds. ask BookFull holds (enters (made authority arc))) (few ∙ sym second_few))
        ∙ ap (λ below. other below (λ arc. ask BookFull (nat_lt (length second) most_entries) (enters (made authority arc)))) (children-same o out))
      where
        left_same : left authority book ≡ left authority second
        left_same = left-same authority (ap (λ identifier. at_or_below identifier x) (found_identifier o book authority is) ∙ out)

    giving-same : (holder : ℕ) (o : List ℕ) (needed : ℕ) (one other : Finder) (made : Entry → ℕ → Entry) → at_or_below o x ≡ false
        → 1 ≤ needed → FindAlike one other → giving book holder o needed one made ≡ giving second holder o needed other made
    giving-same holder o needed one other made out some alike =
        there_is-cong NotInBook (found o book) (found o second) (found_place-same o out) (λ authority is.
        ask-cong WrongKind (is_open authority.kind) _ refl (λ may_give.
        ap (λ rest. ask NotHolder (holder == authority.holder) (ask TooDeep (nat_le (length o + 1) most_arcs) rest))
        (entering-same o needed one other made out some alike authority is may_give)))

    -- Under rules with the same arcs, each call that is not placed at or below X comes to the same at both books.
    pub ruling-same : (one other : Rules) → SameArcs one.panels.set other.panels.set → SameArcs one.authorities.set other.authorities.set
        → (call : Call) → is_within x (place_of call) ≡ false → ruling one book call ≡ ruling other second call
    ruling-same one other panels authorities (grant holder o) out =
        giving-same holder o 1 _ _ (panel_below o) out (omega arith) (lowest_free-alike one.panels other.panels panels)
    ruling-same one other panels authorities (claim holder o arc) out =
        giving-same holder o 1 _ _ (panel_below o) out (omega arith) (claimed-alike one.panels other.panels panels arc)
    ruling-same one other panels authorities (offer holder o quota taker) out =
        giving-same holder o (1 + quota) _ _ (offer_below o quota taker) out (omega arith)
        (lowest_free-alike one.authorities other.authorities authorities)
    ruling-same one other panels authorities (accept taker t) out = turning-same t Accept _ _ _ out (λ entry. refl)
    ruling-same one other panels authorities (decline taker t) out = turning-same t Decline _ _ _ out (λ entry. refl)
    ruling-same one other panels authorities (collect taker t) out = turning-same t Collect _ _ _ out (λ entry. refl)
    ruling-same one other panels authorities (retire holder t) out =
        turning-same t Retire _ _ _ out (λ entry. ap (is_held_by holder) (parent-same t out))
    ruling-same one other panels authorities (roll holder o from) out = rolling-same holder o from out
    ruling-same one other panels authorities (accept_grant t) out = spending-same t AcceptGrant out
    ruling-same one other panels authorities (decline_grant t) out = spending-same t DeclineGrant out
