-- A call is answered yes exactly when each of its questions is.
use Rattle.std.proofs.Common.{◌≡◌, ◌↔◌, ℕ, ◌+◌, ◌<◌, ◌≤◌, ◌==◌, Bool, true, false, cond, not, nat_lt, List, [], ◌∷◌, ◌++◌, length, Some, None, Option, refl, sym, ap, ◌∙◌}
use Rattle.std.proofs.lemmas.Bool.{leb-true, le-leb, ltb-true, lt-ltb, eqb-true, eq-eqb, and_parts, and_from, not-true, not_from_false, both_ways, cond-true}
use Rattle.std.proofs.lemmas.Option.{none-some, same_Some}
use Rattle.std.proofs.lemmas.List.{append_cancel_left}
use Rattle.oid.specs.Arcs.{arc_limit, is_arc}
use Rattle.oid.specs.Tree.{most_arcs}
use Rattle.arc_rules.specs.Rules.{Meaning}
use Rattle.arc_rules.proofs.Theorems.{only_lowest}
use Rattle.book.specs.Kinds.{is_open, next_kind}
use Rattle.book.specs.Book.{Entry, Book, most_entries, found, parent_in, children, is_taken}
use Rattle.book.specs.Left.{left}
use Rattle.book.specs.Free.{in_set, untaken, free_arc}
use Rattle.book.specs.Order.{in_order, from_arc}
use Rattle.book.specs.Rulings.{Answer, refused, named, listed, collected, Ruling, enters, tells, answer_of, ask, there_is}
use Rattle.book.specs.Questions.{Rules, Finder, as_holder, lowest_free, claimed, giving, panel_below, offer_below, turning, spending, is_held_by, holds_parent}
use Rattle.std.specs.Option.{option_map, option_and_then}
use Rattle.std.specs.List.{slice_get}
use Rattle.book.specs.Changes.{with_next}
use Rattle.book.specs.Grants.{Grant, spent, answer_spent}
use Rattle.book.specs.Passing.{IsInHand, Holds, MayGive, IsFree, Stands, IsOfferedTo, IsPanelOf, Passes, AllPass}
use Rattle.book.specs.declared.kind.Kind.{Kind}
use Rattle.book.specs.declared.kind.Kind.TheVariants.{Panel, Retired, Offered, InHand, Open, Declined}
use Rattle.book.specs.declared.event.Event.{Event}
use Rattle.book.specs.declared.event.Event.TheVariants.{Accept, Decline, Retire, Collect, AcceptGrant, DeclineGrant}
use Rattle.book.specs.declared.refusal.Refusal.{Refusal}
use Rattle.book.specs.declared.refusal.Refusal.TheVariants.{NotInBook, WrongKind, NotHolder, TooDeep, TooLittleLeft, NoArc, ArcTaken, BookFull, NotInHand}

-- something that was looked for, of which an answer says yes
record Found {A : Type 0} (thing : Option A) (others : A → Ruling) (told : Answer) : Type 0 where
  one : A
  is : thing ≡ Some one
  follows : answer_of (others one) ≡ told

-- An answer that is no refusal says yes to every question that led to it.
module _ (told : Answer) (granted : (refusal : Refusal) → refused refusal ≡ told → ⊥) where
  ask_yes : (refusal : Refusal) (holds : Bool) (others : Ruling) → answer_of (ask refusal holds others) ≡ told
      → (holds ≡ true) × (answer_of others ≡ told)
  unfolding ask
  ask_yes refusal true others e = (refl, e)
  ask_yes refusal false others e = absurd (granted refusal e)

  there_yes : {A : Type 0} (refusal : Refusal) (thing : Option A) (others : A → Ruling) → answer_of (there_is refusal thing others) ≡ told
      → Found thing others told
  unfolding there_is
  there_yes refusal None others e = absurd (granted refusal e)
  there_yes refusal (Some one) others e = record { one = one; is = refl; follows = e }

ask_from : (told : Answer) (refusal : Refusal) (holds : Bool) (others : Ruling) → holds ≡ true → answer_of others ≡ told
    → answer_of (ask refusal holds others) ≡ told
unfolding ask
ask_from told refusal true others holds e = e
ask_from told refusal false others holds e = absurd (both_ways false refl holds)

there_from : {A : Type 0} (told : Answer) (refusal : Refusal) (thing : Option A) (one : A) (others : A → Ruling) → thing ≡ Some one
    → answer_of (others one) ≡ told → answer_of (there_is refusal thing others) ≡ told
unfolding there_is
there_from told refusal None one others is e = absurd (none-some one is)
there_from told refusal (Some other) one others is e = ap (λ one. answer_of (others one)) (same_Some other one is) ∙ e

open_is : (kind : Kind) → is_open kind ≡ true → kind ≡ Open
open_is Open is = refl
open_is kind is = absurd (both_ways false refl is)

yes_named : (identifier : List ℕ) (refusal : Refusal) → refused refusal ≡ named identifier → ⊥
yes_named identifier refusal e = cc

yes_collected : (holder quota : ℕ) (refusal : Refusal) → refused refusal ≡ collected holder quota → ⊥
yes_collected holder quota refusal e = cc

yes_listed : (o : List ℕ) (shown : List Entry) (refusal : Refusal) → refused refusal ≡ listed o shown → ⊥
yes_listed o shown refusal e = cc

-- O's holder, and what follows
record HoldsThen (book : Book) (holder : ℕ) (o : List ℕ) (others : Entry → Ruling) (told : Answer) : Type 0 where
  holds : Holds book holder o
  follows : answer_of (others holds.authority) ≡ told

module _ (book : Book) (holder : ℕ) (o : List ℕ) (others : Entry → Ruling) (told : Answer) where
  holder_yes : ((refusal : Refusal) → refused refusal ≡ told → ⊥) → answer_of (as_holder book holder o others) ≡ told
      → HoldsThen book holder o others told
  holder_yes granted e =
      let there = there_yes told granted NotInBook (found o book) _ e in
      let kind = ask_yes told granted WrongKind (is_open there.one.kind) _ there.follows in
      let caller = ask_yes told granted NotHolder (holder == there.one.holder) _ kind.1 in
      record {
        holds = record { authority = there.one; here = there.is; kind = open_is there.one.kind kind.0; caller = eqb-true _ _ caller.0 };
        follows = caller.1;
      }

  holder_from : (holds : Holds book holder o) → answer_of (others holds.authority) ≡ told → answer_of (as_holder book holder o others) ≡ told
  holder_from holds e =
      there_from told NotInBook (found o book) holds.authority _ holds.here
      (ask_from told WrongKind (is_open holds.authority.kind) _ (ap is_open holds.kind)
      (ask_from told NotHolder (holder == holds.authority.holder) _ (eq-eqb _ _ holds.caller) e))

-- the one kind that an event changes, and what it makes of it
abbrev old_by : Event → Kind
old_by Accept = Offered
old_by Decline = Offered
old_by Collect = Offered
old_by AcceptGrant = InHand
old_by DeclineGrant = InHand
old_by Retire = Panel

abbrev new_by : Event → Kind
new_by Accept = Open
new_by Decline = Declined
new_by Collect = InHand
new_by AcceptGrant = Open
new_by DeclineGrant = Declined
new_by Retire = Retired

changes : (event : Event) → next_kind (old_by event) event ≡ Some (new_by event)
changes Accept = refl
changes Decline = refl
changes Collect = refl
changes AcceptGrant = refl
changes DeclineGrant = refl
changes Retire = refl

-- and it changes no other
changes_only : (old : Kind) (event : Event) (new : Kind) → next_kind old event ≡ Some new → old ≡ old_by event
changes_only Offered Accept new e = refl
changes_only Offered Decline new e = refl
changes_only Offered Collect new e = refl
changes_only InHand AcceptGrant new e = refl
changes_only InHand DeclineGrant new e = refl
changes_only Panel Retire new e = refl
changes_only old event new e = absurd (none-some new e)

-- T of the right kind, the right caller, and the answer
record TurnsThen (book : Book) (t : List ℕ) (kind : Kind) (by_right : Entry → Bool) (answer : Entry → Answer) (told : Answer) : Type 0 where
  stands : Stands book t kind
  right : by_right stands.entry ≡ true
  follows : answer stands.entry ≡ told

module _ (book : Book) (t : List ℕ) (event : Event) where
  turning_yes : (by_right : Entry → Bool) (answer : Entry → Answer) (told : Answer) → ((refusal : Refusal) → refused refusal ≡ told → ⊥)
      → answer_of (turning book t event by_right answer) ≡ told → TurnsThen book t (old_by event) by_right answer told
  turning_yes by_right answer told granted e =
      let there = there_yes told granted NotInBook (found t book) _ e in
      let change = there_yes told granted WrongKind (next_kind there.one.kind event) _ there.follows in
      let right = ask_yes told granted NotHolder (by_right there.one) _ change.follows in
      record {
        stands = record { entry = there.one; here = there.is; kind_is = changes_only there.one.kind event change.one change.is };
        right = right.0;
        follows = right.1;
      }

  turning_from : (by_right : Entry → Bool) (answer : Entry → Answer) (told : Answer) (stands : Stands book t (old_by event))
      → by_right stands.entry ≡ true → answer stands.entry ≡ told → answer_of (turning book t event by_right answer) ≡ told
  turning_from by_right answer told stands right e =
      there_from told NotInBook (found t book) stands.entry _ stands.here
      (there_from told WrongKind (next_kind stands.entry.kind event) (new_by event) _ (ap (λ kind. next_kind kind event) stands.kind_is ∙ changes event)
      (ask_from told NotHolder (by_right stands.entry) _ right e))

  spending_yes : answer_of (spending book t event) ≡ named t → Stands book t (old_by event)
  spending_yes e =
      let there = there_yes (named t) (yes_named t) NotInHand (found t book) _ e in
      let change = there_yes (named t) (yes_named t) NotInHand (next_kind there.one.kind event) _ there.follows in
      record { entry = there.one; here = there.is; kind_is = changes_only there.one.kind event change.one change.is }

  spending_from : Stands book t (old_by event) → answer_of (spending book t event) ≡ named t
  spending_from stands =
      there_from (named t) NotInHand (found t book) stands.entry _ stands.here
      (there_from (named t) NotInHand (next_kind stands.entry.kind event) (new_by event) _
      (ap (λ kind. next_kind kind event) stands.kind_is ∙ changes event) refl)

-- from questions 14 to 18 on, to the arc that is found
record GivesThen (book : Book) (holder : ℕ) (o : List ℕ) (needed : ℕ) (find_arc : Finder) (made : Entry → ℕ → Entry) (told : Answer)
    : Type 0 where
  holds : Holds book holder o
  short : length o + 1 ≤ most_arcs
  enough : needed ≤ left holds.authority book
  follows : answer_of (find_arc (children o book) (λ arc. ask BookFull (nat_lt (length book) most_entries) (enters (made holds.authority arc)))) ≡ told

module _ (book : Book) (holder : ℕ) (o : List ℕ) (needed : ℕ) (find_arc : Finder) (made : Entry → ℕ → Entry) (told : Answer) where
  giving_yes : ((refusal : Refusal) → refused refusal ≡ told → ⊥) → answer_of (giving book holder o needed find_arc made) ≡ told
      → GivesThen book holder o needed find_arc made told
  giving_yes granted e =
      let by = holder_yes book holder o _ told granted e in
      let short = ask_yes told granted TooDeep _ _ by.follows in
      let enough = ask_yes told granted TooLittleLeft _ _ short.1 in
      record { holds = by.holds; short = leb-true _ _ short.0; enough = leb-true _ _ enough.0; follows = enough.1 }

  giving_from : GivesThen book holder o needed find_arc made told → answer_of (giving book holder o needed find_arc made) ≡ told
  giving_from gives =
      holder_from book holder o _ told gives.holds
      (ask_from told TooDeep _ _ (le-leb _ _ gives.short) (ask_from told TooLittleLeft _ _ (le-leb _ _ gives.enough) gives.follows))

-- what is entered is one arc below O
abbrev Below : List ℕ → (Entry → ℕ → Entry) → Type 0
Below o made = (authority : Entry) (arc : ℕ) → (made authority arc).identifier ≡ o ++ arc ∷ []

same_arc : (o : List ℕ) (one other : ℕ) → o ++ one ∷ [] ≡ o ++ other ∷ [] → one ≡ other
same_arc o one other e = let last = append_cancel_left o (one ∷ []) (other ∷ []) e in cc

module _ (book : Book) (holder : ℕ) (o : List ℕ) (needed : ℕ) (made : Entry → ℕ → Entry) (below : Below o made) (arc : ℕ) where
  -- the last question, and that the answer tells the arc
  entered : (authority : Entry) (found : ℕ)
      → answer_of (ask BookFull (nat_lt (length book) most_entries) (enters (made authority found))) ≡ named (o ++ arc ∷ [])
      → (length book < most_entries) × (found ≡ arc)
  entered authority found e =
      let full = ask_yes (named (o ++ arc ∷ [])) (yes_named (o ++ arc ∷ [])) BookFull _ _ e in
      let is : (made authority found).identifier ≡ o ++ arc ∷ [] = let told = full.1 in cc in
      (ltb-true _ _ full.0, same_arc o found arc (sym (below authority found) ∙ is))

  enters_from : (authority : Entry) → length book < most_entries
      → answer_of (ask BookFull (nat_lt (length book) most_entries) (enters (made authority arc))) ≡ named (o ++ arc ∷ [])
  enters_from authority few = ask_from (named (o ++ arc ∷ [])) BookFull _ _ (lt-ltb _ _ few) (ap named (below authority arc))

  lowest_passes : (rule : Meaning)
      → (answer_of (giving book holder o needed (lowest_free rule) made) ≡ named (o ++ arc ∷ [])) ↔ (MayGive book holder o needed × IsFree rule book o arc)
  lowest_passes rule = (
    λ e.
        let gives = giving_yes book holder o needed (lowest_free rule) made (named (o ++ arc ∷ [])) (yes_named (o ++ arc ∷ [])) e in
        let free = there_yes (named (o ++ arc ∷ [])) (yes_named (o ++ arc ∷ [])) NoArc (free_arc rule.set (children o book)) _ gives.follows in
        let last = entered gives.holds.authority free.one free.follows in (
          record { holds = gives.holds; short = gives.short; enough = gives.enough; few = last.0 },
          (only_lowest (untaken rule.set (children o book)) 0 (Some arc)).1 (sym (free.is ∙ ap Some last.1)),
        ),
    λ both.
        giving_from book holder o needed (lowest_free rule) made (named (o ++ arc ∷ [])) (record {
          holds = both.0.holds;
          short = both.0.short;
          enough = both.0.enough;
          follows = there_from (named (o ++ arc ∷ [])) NoArc (free_arc rule.set (children o book)) arc _
              (sym ((only_lowest (untaken rule.set (children o book)) 0 (Some arc)).0 both.1)) (enters_from both.0.holds.authority both.0.few);
        }),
  )

  claim_passes : (rule : Meaning)
      → (answer_of (giving book holder o needed (claimed rule arc) made) ≡ named (o ++ arc ∷ []))
      ↔ (MayGive book holder o needed × (arc ≤ arc_limit) × (rule.set arc ≡ true) × (is_taken arc (children o book) ≡ false))
  claim_passes rule = (
    λ e.
        let gives = giving_yes book holder o needed (claimed rule arc) made (named (o ++ arc ∷ [])) (yes_named (o ++ arc ∷ [])) e in
        let inside = ask_yes (named (o ++ arc ∷ [])) (yes_named (o ++ arc ∷ [])) NoArc (in_set rule.set arc) _ gives.follows in
        let free = ask_yes (named (o ++ arc ∷ [])) (yes_named (o ++ arc ∷ [])) ArcTaken (not (is_taken arc (children o book))) _ inside.1 in
        let last = entered gives.holds.authority arc free.1 in
        let both = and_parts (is_arc arc) (rule.set arc) inside.0 in (
          record { holds = gives.holds; short = gives.short; enough = gives.enough; few = last.0 },
          leb-true _ _ both.0,
          both.1,
          not-true _ free.0,
        ),
    λ all.
        giving_from book holder o needed (claimed rule arc) made (named (o ++ arc ∷ [])) (record {
          holds = all.0.holds;
          short = all.0.short;
          enough = all.0.enough;
          follows = ask_from (named (o ++ arc ∷ [])) NoArc (in_set rule.set arc) _ (and_from (is_arc arc) _ (le-leb _ _ all.1) all.2)
              (ask_from (named (o ++ arc ∷ [])) ArcTaken _ _ (not_from_false _ all.3) (enters_from all.0.holds.authority all.0.few));
        }),
  )

-- the calls by the holder whom an offer names
offered_passes : (book : Book) (taker : ℕ) (t : List ℕ) (event : Event) → old_by event ≡ Offered
    → (answer_of (turning book t event (λ entry. taker == entry.holder) (λ entry. named t)) ≡ named t) ↔ IsOfferedTo book taker t
offered_passes book taker t event offered = (
  λ e.
      let turns = turning_yes book t event _ (λ entry. named t) (named t) (yes_named t) e in
      record {
        stands = record { entry = turns.stands.entry; here = turns.stands.here; kind_is = turns.stands.kind_is ∙ offered };
        caller = eqb-true _ _ turns.right;
      },
  λ is.
      turning_from book t event _ (λ entry. named t) (named t)
      (record { entry = is.stands.entry; here = is.stands.here; kind_is = is.stands.kind_is ∙ sym offered }) (eq-eqb _ _ is.caller) refl,
)

collect_passes : (book : Book) (taker : ℕ) (t : List ℕ) (quota : ℕ)
    → (answer_of (turning book t Collect (λ entry. taker == entry.holder) (λ entry. collected entry.holder entry.quota)) ≡ collected taker quota)
    ↔ ((offered : IsOfferedTo book taker t) × (offered.stands.entry.quota ≡ quota))
collect_passes book taker t quota = (
  λ e.
      let turns = turning_yes book t Collect _ (λ entry. collected entry.holder entry.quota) (collected taker quota) (yes_collected taker quota) e in
      (record { stands = turns.stands; caller = eqb-true _ _ turns.right }, (let told = turns.follows in cc)),
  λ is.
      turning_from book t Collect _ (λ entry. collected entry.holder entry.quota) (collected taker quota) is.0.stands (eq-eqb _ _ is.0.caller)
      (λ i. collected (sym is.0.caller i) (is.1 i)),
)

-- who holds an entry, if there is one
record HeldBy (holder : ℕ) (thing : Option Entry) : Type 0 where
  authority : Entry
  is : thing ≡ Some authority
  caller : holder ≡ authority.holder

held_by : (holder : ℕ) (thing : Option Entry) → is_held_by holder thing ≡ true → HeldBy holder thing
held_by holder None h = absurd (both_ways false refl h)
held_by holder (Some entry) h = record { authority = entry; is = refl; caller = eqb-true _ _ h }

retire_passes : (book : Book) (holder : ℕ) (t : List ℕ)
    → (answer_of (turning book t Retire (λ entry. holds_parent holder t book) (λ entry. named t)) ≡ named t) ↔ IsPanelOf book holder t
retire_passes book holder t = (
  λ e.
      let turns = turning_yes book t Retire _ (λ entry. named t) (named t) (yes_named t) e in
      let by = held_by holder (parent_in t book) turns.right in
      record { stands = turns.stands; authority = by.authority; parent = by.is; caller = by.caller },
  λ is.
      turning_from book t Retire _ (λ entry. named t) (named t) is.stands (ap (is_held_by holder) is.parent ∙ eq-eqb _ _ is.caller) refl,
)

roll_passes : (book : Book) (holder : ℕ) (o : List ℕ) (from : ℕ)
    → ((shown : List Entry)
    × (answer_of (as_holder book holder o (λ authority. tells (listed o (from_arc from (in_order (children o book)))))) ≡ listed o shown))
    ↔ Holds book holder o
roll_passes book holder o from = (
  λ e. (holder_yes book holder o _ (listed o e.0) (yes_listed o e.0) e.1).holds,
  λ holds. (from_arc from (in_order (children o book)), holder_from book holder o _ _ holds refl),
)

-- any Grant is spent where its entry is in hand, and it has the serial
grant_passes : (serial : ℕ) (book : Book) (grant : Grant) (identifier : List ℕ) (event : Event) → old_by event ≡ InHand
    → (answer_spent (spent serial book grant event) ≡ named identifier)
    ↔ ((in_hand : IsInHand serial book grant) × (in_hand.entry.identifier ≡ identifier))
grant_passes serial book grant identifier event by = (
  λ e. by_serial (grant.serial == serial) refl e,
  λ both.
      let is = both.0 in
      let next : with_next event is.entry ≡ Some (record is.entry { kind = new_by event }) =
      ap (option_map (λ kind. record is.entry { kind = kind })) (ap (λ kind. next_kind kind event) (is.kind_is ∙ sym by) ∙ changes event) in
      ap answer_spent (cond-true _ _ _ (eq-eqb _ _ is.its_serial) ∙ ap (option_and_then (with_next event)) is.row ∙ next) ∙ ap named both.1,
)
  where
    by_next : (entry : Entry) (next : Option Kind) → slice_get book grant.row ≡ Some entry → grant.serial ≡ serial → next_kind entry.kind event ≡ next
        → answer_spent (option_map (λ kind. record entry { kind = kind }) next) ≡ named identifier
        → (in_hand : IsInHand serial book grant) × (in_hand.entry.identifier ≡ identifier)
    by_next entry None row own is e = absurd (cc)
    by_next entry (Some kind) row own is e =
        (record { its_serial = own; entry = entry; row = row; kind_is = changes_only entry.kind event kind is ∙ by }, cc)

    by_row : (thing : Option Entry) → slice_get book grant.row ≡ thing → grant.serial ≡ serial
        → answer_spent (option_and_then (with_next event) thing) ≡ named identifier
        → (in_hand : IsInHand serial book grant) × (in_hand.entry.identifier ≡ identifier)
    by_row None is own e = absurd (cc)
    by_row (Some entry) is own e = by_next entry (next_kind entry.kind event) is own refl e

    by_serial : (v : Bool) → (grant.serial == serial) ≡ v
        → answer_spent (cond v (option_and_then (with_next event) (slice_get book grant.row)) None) ≡ named identifier
        → (in_hand : IsInHand serial book grant) × (in_hand.entry.identifier ≡ identifier)
    by_serial true own e = by_row (slice_get book grant.row) refl (eqb-true _ _ own) e
    by_serial false own e = absurd (cc)

passes : (rules : Rules) (book : Book) → Passes rules book
passes rules book = record {
  grants = λ holder o arc. lowest_passes book holder o 1 (panel_below o) (λ _ _. refl) arc rules.panels;
  claims = λ holder o arc. claim_passes book holder o 1 (panel_below o) (λ _ _. refl) arc rules.panels;
  offers = λ holder o quota taker arc. lowest_passes book holder o (1 + quota) (offer_below o quota taker) (λ _ _. refl) arc rules.authorities;
  accepts = λ taker t. offered_passes book taker t Accept refl;
  declines = λ taker t. offered_passes book taker t Decline refl;
  collects = λ taker t quota. collect_passes book taker t quota;
  retires = λ holder t. retire_passes book holder t;
  rolls = λ holder o from. roll_passes book holder o from;
  accepts_a_grant = λ t. (spending_yes book t AcceptGrant, spending_from book t AcceptGrant);
  declines_a_grant = λ t. (spending_yes book t DeclineGrant, spending_from book t DeclineGrant);
}

pub all_pass : AllPass
all_pass = (
  passes,
  λ serial book grant identifier. (grant_passes serial book grant identifier AcceptGrant refl, grant_passes serial book grant identifier DeclineGrant refl),
)
