-- What is known of a ruling by the questions that led to it.
use Rattle.std.proofs.Common.{◌≡◌, ℕ, ◌+◌, ◌≤◌, Bool, true, false, cond, not, List, [], ◌∷◌, ◌++◌, length, Some, None, Option, unwrap_or, ◌⊎◌, inl, inr, refl, sym, ap, ◌∙◌, subst, arith}
use Rattle.std.specs.Bool.{⊤}
use Rattle.std.proofs.lemmas.Bool.{leb-true, ltb-false, and_parts, not-true, both_ways}
use Rattle.oid.specs.Arcs.{arc_limit, is_arc}
use Rattle.oid.specs.Tree.{most_arcs, parent_of}
use Rattle.arc_rules.specs.Sets.{ArcSet}
use Rattle.arc_rules.specs.Rules.{Meaning}
use Rattle.arc_rules.specs.Lowest.{IsLowest}
use Rattle.arc_rules.proofs.Searching.{search_is_lowest}
use Rattle.book.specs.Kinds.{is_open, is_authority, next_kind}
use Rattle.book.specs.Book.{Entry, Book, most_entries, found, children, is_taken}
use Rattle.book.specs.Left.{counted, left}
use Rattle.book.specs.Free.{untaken}
use Rattle.book.specs.Calls.{Call, grant, claim, offer, accept, decline, retire, roll, collect, accept_grant, decline_grant, place_of}
use Rattle.book.specs.Rulings.{Answer, refused, named, Ruling, refuses, enters, turns, tells, ask, there_is}
use Rattle.book.specs.Questions.{Rules, Finder, as_holder, lowest_free, claimed, giving, panel_below, offer_below, turning, spending, ruling}
use Rattle.book.specs.Runs.{identifier_in, by_call}
use Rattle.book.specs.Given.{Gift, gift_by, declined_by}
use Rattle.book.specs.Law.{set_for, quota_in}
use Rattle.book.specs.declared.kind.Kind.{Kind}
use Rattle.book.specs.declared.event.Event.{Event}
use Rattle.book.specs.declared.event.Event.TheVariants.{Accept, Decline, Retire, Collect, AcceptGrant, DeclineGrant}
use Rattle.book.proofs.Changes.{is_declined, declines_by, change}
use Rattle.book.specs.declared.refusal.Refusal.{Refusal}
use Rattle.book.specs.declared.refusal.Refusal.TheVariants.{BookFull}

-- the gift by which an entry came into the book, as the entry itself tells it
abbrev pub row_gift : Entry → Gift
row_gift entry = record { giver = unwrap_or (parent_of entry.identifier) []; identifier = entry.identifier; offered = quota_in entry }

-- what is known when an arc was found below an authority, of which so much is needed, by a rule with such a set
pub record Asked (book : Book) (o : List ℕ) (needed : ℕ) (set : ArcSet) (authority : Entry) (arc : ℕ) : Type 0 where
  pub here : found o book ≡ Some authority
  pub opened : is_open authority.kind ≡ true
  pub short : length o + 1 ≤ most_arcs
  pub enough : needed ≤ left authority book
  pub within : arc ≤ arc_limit
  pub in_set : set arc ≡ true
  pub untaken : is_taken arc (children o book) ≡ false

-- what is known of an entry that is entered
pub record Entered (rules : Rules) (book : Book) (call : Call) (entry : Entry) : Type 0 where
  pub o : List ℕ
  pub authority : Entry
  pub arc : ℕ
  pub asked : Asked book o (counted entry) (set_for rules (quota_in entry)) authority arc
  pub identifier : entry.identifier ≡ o ++ arc ∷ []
  pub undeclined : is_declined entry.kind ≡ false
  pub holder : is_authority entry.kind ≡ false → entry.holder ≡ authority.holder
  pub placed : place_of call ≡ Some o
  pub gift : (identifier : List ℕ) → gift_by call identifier ≡ Some (record { giver = o; identifier = identifier; offered = quota_in entry })
  pub ends : declined_by call ≡ None

-- what is known of an entry whose kind is changed
pub record Turned (book : Book) (call : Call) (t : List ℕ) (kind : Kind) (answer : Answer) : Type 0 where
  pub entry : Entry
  pub event : Event
  pub here : found t book ≡ Some entry
  pub next : next_kind entry.kind event ≡ Some kind
  pub placed : place_of call ≡ parent_of t
  pub gift : (identifier : List ℕ) → gift_by call identifier ≡ None
  pub ends : declined_by call ≡ cond (is_declined kind) (Some t) None
  pub says : (identifier_in (by_call answer) ≡ None) ⊎ (identifier_in (by_call answer) ≡ Some t)
  pub names : is_declined kind ≡ true → answer ≡ named t
  pub granted : (refusal : Refusal) → answer ≡ refused refusal → ⊥

-- what is known of an answer alone
pub record Told (book : Book) (call : Call) (answer : Answer) : Type 0 where
  pub o : List ℕ
  pub authority : Entry
  pub here : found o book ≡ Some authority
  pub gift : (identifier : List ℕ) → gift_by call identifier ≡ None
  pub ends : declined_by call ≡ None
  pub says : identifier_in (by_call answer) ≡ Some o

-- what is known of a book that is said to be full: it is, and an open authority has something left
pub record Full (book : Book) : Type 0 where
  pub o : List ℕ
  pub authority : Entry
  pub here : found o book ≡ Some authority
  pub opened : is_open authority.kind ≡ true
  pub some : 1 ≤ left authority book
  pub full : most_entries ≤ length book

-- of other refusals nothing has to be known
abbrev pub SaysNo : Book → Refusal → Type 0
SaysNo book BookFull = Full book
SaysNo book refusal = ⊤

-- what is known of any ruling
abbrev pub Says : Rules → Book → Call → Ruling → Type 0
Says rules book call (refuses refusal) = SaysNo book refusal
Says rules book call (enters entry) = Entered rules book call entry
Says rules book call (turns t kind answer) = Turned book call t kind answer
Says rules book call (tells answer) = Told book call answer

module _ (rules : Rules) (book : Book) (call : Call) where
  -- what is known behind a question is known of what the questions come to
  ask_says : (refusal : Refusal) (holds : Bool) (others : Ruling) → (holds ≡ false → SaysNo book refusal)
      → (holds ≡ true → Says rules book call others) → Says rules book call (ask refusal holds others)
  unfolding ask
  ask_says refusal true others otherwise known = known refl
  ask_says refusal false others otherwise known = otherwise refl

  there_is_says : {A : Type 0} (refusal : Refusal) (thing : Option A) (others : A → Ruling) → SaysNo book refusal
      → ((a : A) → thing ≡ Some a → Says rules book call (others a)) → Says rules book call (there_is refusal thing others)
  unfolding there_is
  there_is_says refusal None others otherwise known = otherwise
  there_is_says refusal (Some a) others otherwise known = known a refl

  as_holder_says : (holder : ℕ) (o : List ℕ) (others : Entry → Ruling)
      → ((authority : Entry) → found o book ≡ Some authority → is_open authority.kind ≡ true → Says rules book call (others authority))
      → Says rules book call (as_holder book holder o others)
  as_holder_says holder o others known =
      there_is_says _ _ _ tt (λ authority here. ask_says _ _ _ (λ _. tt) (λ opened. ask_says _ _ _ (λ _. tt) (λ _. known authority here opened)))

  -- the arc of a gift is one of the set that no child has, however it is found
  abbrev Finds : ArcSet → Finder → Type 0
  Finds set find_arc = (siblings : List Entry) (others : ℕ → Ruling)
      → ((arc : ℕ) → arc ≤ arc_limit → set arc ≡ true → is_taken arc siblings ≡ false → Says rules book call (others arc))
      → Says rules book call (find_arc siblings others)

  lowest_finds : (rule : Meaning) → Finds rule.set (lowest_free rule)
  lowest_finds rule siblings others known = there_is_says _ _ _ tt (λ arc e. go arc (subst (IsLowest (untaken rule.set siblings) 0) e (search_is_lowest _ 0)))
    where
      go : (arc : ℕ) → IsLowest (untaken rule.set siblings) 0 (Some arc) → Says rules book call (others arc)
      go arc lowest =
          let both = and_parts (rule.set arc) (not (is_taken arc siblings)) lowest.2 in
          known arc lowest.1 both.0 (not-true (is_taken arc siblings) both.1)

  claimed_finds : (rule : Meaning) (arc : ℕ) → Finds rule.set (claimed rule arc)
  claimed_finds rule arc siblings others known =
      ask_says _ _ _ (λ _. tt) (λ inside. ask_says _ _ _ (λ _. tt) (λ untaken.
      let both = and_parts (is_arc arc) (rule.set arc) inside in
      known arc (leb-true arc arc_limit both.0) both.1 (not-true (is_taken arc siblings) untaken)))

  giving_says : (set : ArcSet) (holder : ℕ) (o : List ℕ) (needed : ℕ) (find_arc : Finder) (made : Entry → ℕ → Entry)
      → 1 ≤ needed → Finds set find_arc
      → ((authority : Entry) (arc : ℕ) → Asked book o needed set authority arc → Entered rules book call (made authority arc))
      → Says rules book call (giving book holder o needed find_arc made)
  giving_says set holder o needed find_arc made some finds entered =
      as_holder_says holder o _ (λ authority here opened.
      ask_says _ _ _ (λ _. tt) (λ short. ask_says _ _ _ (λ _. tt) (λ enough.
      finds (children o book) _ (λ arc within in_set untaken.
      ask_says _ _ _ (λ full. record {
        o = o;
        authority = authority;
        here = here;
        opened = opened;
        some = omega (arith, some, leb-true _ _ enough);
        full = ltb-false _ _ full;
      }) (λ _.
      entered authority arc (record {
        here = here;
        opened = opened;
        short = leb-true _ _ short;
        enough = leb-true _ _ enough;
        within = within;
        in_set = in_set;
        untaken = untaken;
      }))))))

  turning_says : (t : List ℕ) (event : Event) (by_right : Entry → Bool) (answer : Entry → Answer)
      → ((entry : Entry) (kind : Kind) → found t book ≡ Some entry → next_kind entry.kind event ≡ Some kind
      → Turned book call t kind (answer entry))
      → Says rules book call (turning book t event by_right answer)
  turning_says t event by_right answer known =
      there_is_says _ _ _ tt (λ entry here. there_is_says _ _ _ tt (λ kind next. ask_says _ _ _ (λ _. tt) (λ _. known entry kind here next)))

  spending_says : (t : List ℕ) (event : Event)
      → ((entry : Entry) (kind : Kind) → found t book ≡ Some entry → next_kind entry.kind event ≡ Some kind
      → Turned book call t kind (named t))
      → Says rules book call (spending book t event)
  spending_says t event known = there_is_says _ _ _ tt (λ entry here. there_is_says _ _ _ tt (λ kind next. known entry kind here next))

-- a panel that is entered
panel_entered : (rules : Rules) (book : Book) (call : Call) (o : List ℕ) (authority : Entry) (arc : ℕ) → place_of call ≡ Some o
    → ((identifier : List ℕ) → gift_by call identifier ≡ Some (record { giver = o; identifier = identifier; offered = None }))
    → declined_by call ≡ None → Asked book o 1 rules.panels.set authority arc → Entered rules book call (panel_below o authority arc)
panel_entered rules book call o authority arc placed gift ends asked = record {
  o = o;
  authority = authority;
  arc = arc;
  asked = asked;
  identifier = refl;
  undeclined = refl;
  holder = λ _. refl;
  placed = placed;
  gift = gift;
  ends = ends;
}

offer_entered : (rules : Rules) (book : Book) (holder : ℕ) (o : List ℕ) (quota taker : ℕ) (authority : Entry) (arc : ℕ)
    → Asked book o (1 + quota) rules.authorities.set authority arc
    → Entered rules book (offer holder o quota taker) (offer_below o quota taker authority arc)
offer_entered rules book holder o quota taker authority arc asked = record {
  o = o;
  authority = authority;
  arc = arc;
  asked = asked;
  identifier = refl;
  undeclined = refl;
  holder = λ panel. absurd (both_ways true panel refl);
  placed = refl;
  gift = λ _. refl;
  ends = refl;
}

-- a call by an event, which says whether the entry is declined
abbrev ByEvent : Call → List ℕ → Event → Type 0
ByEvent call t event = (place_of call ≡ parent_of t) × ((identifier : List ℕ) → gift_by call identifier ≡ None)
    × (declined_by call ≡ cond (declines_by event) (Some t) None)

turned_by : (book : Book) (call : Call) (t : List ℕ) (event : Event) → ByEvent call t event → (answer : Entry → Answer)
    → ((entry : Entry) → (identifier_in (by_call (answer entry)) ≡ None) ⊎ (identifier_in (by_call (answer entry)) ≡ Some t))
    → ((entry : Entry) → declines_by event ≡ true → answer entry ≡ named t)
    → ((entry : Entry) (refusal : Refusal) → answer entry ≡ refused refusal → ⊥)
    → (entry : Entry) (kind : Kind) → found t book ≡ Some entry → next_kind entry.kind event ≡ Some kind
    → Turned book call t kind (answer entry)
turned_by book call t event by answer says names granted entry kind here next =
    let declined = (change entry.kind event kind next).declined in
    record {
      entry = entry;
      event = event;
      here = here;
      next = next;
      placed = by.0;
      gift = by.1;
      ends = by.2 ∙ ap (λ v. cond v (Some t) None) (sym declined);
      says = says entry;
      names = λ h. names entry (sym declined ∙ h);
      granted = granted entry;
    }

-- where it is answered with T
turned_named : (book : Book) (call : Call) (t : List ℕ) (event : Event) → ByEvent call t event
    → (entry : Entry) (kind : Kind) → found t book ≡ Some entry → next_kind entry.kind event ≡ Some kind → Turned book call t kind (named t)
turned_named book call t event by = turned_by book call t event by (λ _. named t) (λ _. inr refl) (λ _ _. refl) (λ entry refusal e. cc)

-- what is known of the ruling on each call
pub ruling_says : (rules : Rules) (book : Book) (call : Call) → Says rules book call (ruling rules book call)
ruling_says rules book (grant holder o) =
    giving_says rules book _ rules.panels.set holder o 1 _ _ (omega arith) (lowest_finds rules book _ rules.panels)
    (λ authority arc. panel_entered rules book _ o authority arc refl (λ _. refl) refl)
ruling_says rules book (claim holder o arc) =
    giving_says rules book _ rules.panels.set holder o 1 _ _ (omega arith) (claimed_finds rules book _ rules.panels arc)
    (λ authority arc. panel_entered rules book _ o authority arc refl (λ _. refl) refl)
ruling_says rules book (offer holder o quota taker) =
    giving_says rules book _ rules.authorities.set holder o (1 + quota) _ _ (omega arith) (lowest_finds rules book _ rules.authorities)
    (offer_entered rules book holder o quota taker)
ruling_says rules book (accept taker t) = turning_says rules book _ t Accept _ _ (turned_named book _ t Accept (refl, (λ _. refl), refl))
ruling_says rules book (decline taker t) = turning_says rules book _ t Decline _ _ (turned_named book _ t Decline (refl, (λ _. refl), refl))
ruling_says rules book (retire holder t) = turning_says rules book _ t Retire _ _ (turned_named book _ t Retire (refl, (λ _. refl), refl))
ruling_says rules book (collect taker t) =
    turning_says rules book _ t Collect _ _
    (turned_by book _ t Collect (refl, (λ _. refl), refl) _ (λ _. inl refl) (λ _ h. absurd (both_ways false refl h)) (λ entry refusal e. cc))
ruling_says rules book (accept_grant t) = spending_says rules book _ t AcceptGrant (turned_named book _ t AcceptGrant (refl, (λ _. refl), refl))
ruling_says rules book (decline_grant t) = spending_says rules book _ t DeclineGrant (turned_named book _ t DeclineGrant (refl, (λ _. refl), refl))
ruling_says rules book (roll holder o from) =
    as_holder_says rules book _ holder o _ (λ authority here _. record {
      o = o;
      authority = authority;
      here = here;
      gift = λ _. refl;
      ends = refl;
      says = refl;
    })
