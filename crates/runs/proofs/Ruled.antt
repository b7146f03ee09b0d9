-- What the questions of each call come to, and what that does to what is in hand.
use Rattle.std.proofs.Common.{◌≡◌, ℕ, ◌+◌, Bool, true, false, List, Some, None, Option, refl}
use Rattle.std.proofs.lemmas.Bool.{both_ways}
use Rattle.arc_rules.specs.Rules.{Meaning}
use Rattle.book.specs.Kinds.{next_kind}
use Rattle.book.specs.Book.{Entry, Book, found}
use Rattle.book.specs.Calls.{Call, grant, claim, offer, accept, decline, retire, roll, collect, accept_grant, decline_grant}
use Rattle.book.specs.Rulings.{Answer, refused, collected, Ruling, refuses, enters, turns, answer_of, book_after, turned, ask, there_is}
use Rattle.book.specs.Questions.{Rules, Finder, as_holder, lowest_free, claimed, giving, panel_below, offer_below, turning, answer, after}
use Rattle.book.specs.declared.kind.Kind.{Kind}
use Rattle.book.specs.declared.event.Event.{Event}
use Rattle.book.specs.declared.event.Event.TheVariants.{Accept, Decline, Retire, Collect}
use Rattle.book.specs.declared.refusal.Refusal.{Refusal}
use Rattle.runs.specs.Hands.{in_hand}
use Rattle.runs.proofs.Moves.{SameHands, ends_hand, gives_hand, turned_moves, moves_nothing, entered_moves}

-- what holds of every refusal, and of what the questions come to behind a yes, holds of what they come to
module _ (P : Ruling → Type 0) (no : (refusal : Refusal) → P (refuses refusal)) where
  asked : (refusal : Refusal) (holds : Bool) (others : Ruling) → P others → P (ask refusal holds others)
  unfolding ask
  asked refusal true others behind = behind
  asked refusal false others behind = no refusal

  there : {A : Type 0} (refusal : Refusal) (thing : Option A) (others : A → Ruling)
      → ((a : A) → thing ≡ Some a → P (others a)) → P (there_is refusal thing others)
  unfolding there_is
  there refusal None others behind = no refusal
  there refusal (Some a) others behind = behind a refl

  held_by : (book : Book) (holder : ℕ) (o : List ℕ) (others : Entry → Ruling) → ((authority : Entry) → P (others authority))
      → P (as_holder book holder o others)
  held_by book holder o others behind = there _ _ _ (λ authority _. asked _ _ _ (asked _ _ _ (behind authority)))

  lowest : (rule : Meaning) (siblings : List Entry) (others : ℕ → Ruling) → ((arc : ℕ) → P (others arc)) → P (lowest_free rule siblings others)
  lowest rule siblings others behind = there _ _ _ (λ arc _. behind arc)

  named_arc : (rule : Meaning) (arc : ℕ) (siblings : List Entry) (others : ℕ → Ruling) → ((arc : ℕ) → P (others arc))
      → P (claimed rule arc siblings others)
  named_arc rule arc siblings others behind = asked _ _ _ (asked _ _ _ (behind arc))

  given : (book : Book) (holder : ℕ) (o : List ℕ) (needed : ℕ) (find_arc : Finder) (made : Entry → ℕ → Entry)
      → ((siblings : List Entry) (others : ℕ → Ruling) → ((arc : ℕ) → P (others arc)) → P (find_arc siblings others))
      → ((authority : Entry) (arc : ℕ) → P (enters (made authority arc))) → P (giving book holder o needed find_arc made)
  given book holder o needed find_arc made finds entered =
      held_by book holder o _ (λ authority. asked _ _ _ (asked _ _ _ (finds _ _ (λ arc. asked _ _ _ (entered authority arc)))))

  pub turned_by : (book : Book) (t : List ℕ) (event : Event) (by_right : Entry → Bool) (told : Entry → Answer)
      → ((entry : Entry) (kind : Kind) → found t book ≡ Some entry → next_kind entry.kind event ≡ Some kind → P (turns t kind (told entry)))
      → P (turning book t event by_right told)
  turned_by book t event by_right told behind = there _ _ _ (λ entry here. there _ _ _ (λ kind next. asked _ _ _ (behind entry kind here next)))

-- the calls that have to do with Grants
abbrev pub of_grants : Call → Bool
of_grants (collect taker t) = true
of_grants (accept_grant t) = true
of_grants (decline_grant t) = true
of_grants call = false

-- what a ruling leaves has the same in hand
abbrev Stays : Book → Ruling → Type 0
Stays book r = SameHands book (book_after r book)

stays : (book : Book) (refusal : Refusal) → Stays book (refuses refusal)
stays book refusal = record { each = λ t. refl; count = refl }

given_stays : (book : Book) (holder : ℕ) (o : List ℕ) (needed : ℕ) (find_arc : Finder) (made : Entry → ℕ → Entry)
    → ((siblings : List Entry) (others : ℕ → Ruling) → ((arc : ℕ) → Stays book (others arc)) → Stays book (find_arc siblings others))
    → ((authority : Entry) (arc : ℕ) → in_hand (made authority arc) ≡ false) → Stays book (giving book holder o needed find_arc made)
given_stays book holder o needed find_arc made finds out =
    given (Stays book) (stays book) book holder o needed find_arc made finds
    (λ authority arc. entered_moves book (made authority arc) (out authority arc))

turned_stays : (book : Book) (t : List ℕ) (event : Event) (by_right : Entry → Bool) (told : Entry → Answer)
    → ends_hand event ≡ false → gives_hand event ≡ false → Stays book (turning book t event by_right told)
turned_stays book t event by_right told ends gives =
    turned_by (Stays book) (stays book) book t event by_right told (λ entry kind here next.
    moves_nothing t book (turned t kind book) ends gives (turned_moves t event kind book entry here next))

-- the others put nothing in hand, and take nothing out
pub others_same : (rules : Rules) (book : Book) (call : Call) → of_grants call ≡ false → SameHands book (after rules book call)
others_same rules book (grant holder o) other =
    given_stays book holder o 1 _ (panel_below o) (lowest (Stays book) (stays book) rules.panels) (λ authority arc. refl)
others_same rules book (claim holder o arc) other =
    given_stays book holder o 1 _ (panel_below o) (named_arc (Stays book) (stays book) rules.panels arc) (λ authority arc. refl)
others_same rules book (offer holder o quota taker) other =
    given_stays book holder o (1 + quota) _ (offer_below o quota taker) (lowest (Stays book) (stays book) rules.authorities) (λ authority arc. refl)
others_same rules book (accept taker t) other = turned_stays book t Accept _ _ refl refl
others_same rules book (decline taker t) other = turned_stays book t Decline _ _ refl refl
others_same rules book (retire holder t) other = turned_stays book t Retire _ _ refl refl
others_same rules book (roll holder o from) other =
    held_by (Stays book) (stays book) book holder o _ (λ authority. record { each = λ t. refl; count = refl })
others_same rules book call other = absurd (both_ways _ other refl)

-- a collect that is answered with terms has put what it names in hand
pub record Collects (book later : Book) (t : List ℕ) : Type 0 where
  pub entry : Entry
  pub kind : Kind
  pub here : found t book ≡ Some entry
  pub next : next_kind entry.kind Collect ≡ Some kind
  pub leaves : later ≡ turned t kind book

pub collects : (rules : Rules) (book : Book) (taker : ℕ) (t : List ℕ) (holder quota : ℕ) → answer rules book (collect taker t) ≡ collected holder quota
    → Collects book (after rules book (collect taker t)) t
collects rules book taker t holder quota =
    turned_by (λ r. answer_of r ≡ collected holder quota → Collects book (book_after r book) t) (λ refusal e. absurd (cc)) book t Collect _ _
    (λ entry kind here next _. record { entry = entry; kind = kind; here = here; next = next; leaves = refl })

-- and one that is refused leaves the book as it was
pub collect_refused : (rules : Rules) (book : Book) (taker : ℕ) (t : List ℕ) (refusal : Refusal) → answer rules book (collect taker t) ≡ refused refusal
    → after rules book (collect taker t) ≡ book
collect_refused rules book taker t refusal =
    turned_by (λ r. answer_of r ≡ refused refusal → book_after r book ≡ book) (λ refusal e. refl) book t Collect _ _
    (λ entry kind here next e. absurd (cc))
