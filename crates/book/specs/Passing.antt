-- When a call is answered yes: exactly when each of its questions is. Here the questions of a call stand side by side, in no order.
use Rattle.std.specs.Prelude.{ℕ, ◌+◌, ◌<◌, ◌≤◌, ◌≡◌, ◌↔◌, true, false, List, [], ◌∷◌, ◌++◌, length, slice_get, Some}
use Rattle.oid.specs.Arcs.{arc_limit}
use Rattle.oid.specs.Tree.{most_arcs}
use Rattle.arc_rules.specs.Rules.{Meaning}
use Rattle.arc_rules.specs.Lowest.{IsLowest}
use Rattle.book.specs.Book.{Entry, Book, most_entries, found, parent_in, children, is_taken}
use Rattle.book.specs.Left.{left}
use Rattle.book.specs.Free.{untaken}
use Rattle.book.specs.Calls.{grant, claim, offer, accept, decline, retire, roll, collect, accept_grant, decline_grant}
use Rattle.book.specs.Rulings.{named, listed, collected}
use Rattle.book.specs.Questions.{Rules, answer}
use Rattle.book.specs.Grants.{Grant, spent, answer_spent}
use Rattle.book.specs.declared.event.Event.TheVariants.{AcceptGrant, DeclineGrant}
use Rattle.book.specs.declared.kind.Kind.{Kind}
use Rattle.book.specs.declared.kind.Kind.TheVariants.{Panel, Offered, InHand, Open}

-- O stands in the book, is open, and the caller is its holder
pub record Holds (book : Book) (holder : ℕ) (o : List ℕ) : Type 0 where
  pub authority : Entry
  pub here : found o book ≡ Some authority
  pub kind : authority.kind ≡ Open
  pub caller : holder ≡ authority.holder

-- besides, there is room for an identifier below O, and O has left what is needed
pub record MayGive (book : Book) (holder : ℕ) (o : List ℕ) (needed : ℕ) : Type 0 where
  pub holds : Holds book holder o
  pub short : length o + 1 ≤ most_arcs
  pub enough : needed ≤ left holds.authority book
  pub few : length book < most_entries

-- an arc is the lowest of a rule's set that no child of O has
abbrev pub IsFree : Meaning → Book → List ℕ → ℕ → Type 0
IsFree rule book o arc = IsLowest (untaken rule.set (children o book)) 0 (Some arc)

-- T stands in the book, with this kind
pub record Stands (book : Book) (t : List ℕ) (kind : Kind) : Type 0 where
  pub entry : Entry
  pub here : found t book ≡ Some entry
  pub kind_is : entry.kind ≡ kind

-- T stands in the book and is offered, and the caller is the holder whom the offer names
pub record IsOfferedTo (book : Book) (taker : ℕ) (t : List ℕ) : Type 0 where
  pub stands : Stands book t Offered
  pub caller : taker ≡ stands.entry.holder

-- T stands in the book and is a panel, and the caller is the holder of its parent
pub record IsPanelOf (book : Book) (holder : ℕ) (t : List ℕ) : Type 0 where
  pub stands : Stands book t Panel
  pub authority : Entry
  pub parent : parent_in t book ≡ Some authority
  pub caller : holder ≡ authority.holder

-- a Grant has this register's serial, and its entry is in hand
pub record IsInHand (serial : ℕ) (book : Book) (grant : Grant) : Type 0 where
  pub its_serial : grant.serial ≡ serial
  pub entry : Entry
  pub row : slice_get book grant.row ≡ Some entry
  pub kind_is : entry.kind ≡ InHand

-- when each call passes, at any book and for any rules
pub record Passes (rules : Rules) (book : Book) : Type 0 where
  pub grants : (holder : ℕ) (o : List ℕ) (arc : ℕ)
      → (answer rules book (grant holder o) ≡ named (o ++ arc ∷ [])) ↔ (MayGive book holder o 1 × IsFree rules.panels book o arc)
  pub claims : (holder : ℕ) (o : List ℕ) (arc : ℕ)
      → (answer rules book (claim holder o arc) ≡ named (o ++ arc ∷ []))
      ↔ (MayGive book holder o 1 × (arc ≤ arc_limit) × (rules.panels.set arc ≡ true) × (is_taken arc (children o book) ≡ false))
  pub offers : (holder : ℕ) (o : List ℕ) (quota taker arc : ℕ)
      → (answer rules book (offer holder o quota taker) ≡ named (o ++ arc ∷ []))
      ↔ (MayGive book holder o (1 + quota) × IsFree rules.authorities book o arc)
  pub accepts : (taker : ℕ) (t : List ℕ) → (answer rules book (accept taker t) ≡ named t) ↔ IsOfferedTo book taker t
  pub declines : (taker : ℕ) (t : List ℕ) → (answer rules book (decline taker t) ≡ named t) ↔ IsOfferedTo book taker t
  pub collects : (taker : ℕ) (t : List ℕ) (quota : ℕ)
      → (answer rules book (collect taker t) ≡ collected taker quota)
      ↔ ((offered : IsOfferedTo book taker t) × (offered.stands.entry.quota ≡ quota))
  pub retires : (holder : ℕ) (t : List ℕ) → (answer rules book (retire holder t) ≡ named t) ↔ IsPanelOf book holder t
  pub rolls : (holder : ℕ) (o : List ℕ) (from : ℕ)
      → ((shown : List Entry) × (answer rules book (roll holder o from) ≡ listed o shown)) ↔ Holds book holder o
  pub accepts_a_grant : (t : List ℕ) → (answer rules book (accept_grant t) ≡ named t) ↔ Stands book t InHand
  pub declines_a_grant : (t : List ℕ) → (answer rules book (decline_grant t) ≡ named t) ↔ Stands book t InHand

-- when any Grant is spent
abbrev pub GrantsPass : Type 0
GrantsPass = (serial : ℕ) (book : Book) (grant : Grant) (identifier : List ℕ)
    → ((answer_spent (spent serial book grant AcceptGrant) ≡ named identifier)
    ↔ ((in_hand : IsInHand serial book grant) × (in_hand.entry.identifier ≡ identifier)))
    × ((answer_spent (spent serial book grant DeclineGrant) ≡ named identifier)
    ↔ ((in_hand : IsInHand serial book grant) × (in_hand.entry.identifier ≡ identifier)))

-- All calls pass so, and all Grants.
abbrev pub AllPass : Type 0
AllPass = ((rules : Rules) (book : Book) → Passes rules book) × GrantsPass
