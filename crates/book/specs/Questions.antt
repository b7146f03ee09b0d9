-- The questions 14 to 22, put to each call that they concern, in their order.
use Rattle.std.specs.Prelude.{ℕ, ◌+◌, Bool, false, not, List, [], ◌∷◌, ◌++◌, length, nat_le, nat_lt, ◌==◌, Some, None, Option}
use Rattle.oid.specs.Tree.{most_arcs}
use Rattle.arc_rules.specs.Rules.{Meaning}
use Rattle.book.specs.Kinds.{is_open, next_kind}
use Rattle.book.specs.Book.{Entry, Book, most_entries, found, parent_in, children, is_taken}
use Rattle.book.specs.Left.{left}
use Rattle.book.specs.Free.{in_set, free_arc}
use Rattle.book.specs.Order.{in_order, from_arc}
use Rattle.book.specs.Calls.{Call, grant, claim, offer, accept, decline, retire, roll, collect, accept_grant, decline_grant}
use Rattle.book.specs.Rulings.{Ruling, enters, turns, tells, Answer, named, listed, collected, answer_of, book_after, ask, there_is}
use Rattle.book.specs.declared.kind.Kind.TheVariants.{Panel, Offered}
use Rattle.book.specs.declared.event.Event.{Event}
use Rattle.book.specs.declared.event.Event.TheVariants.{Accept, Decline, Retire, Collect, AcceptGrant, DeclineGrant}
use Rattle.book.specs.declared.refusal.Refusal.TheVariants.{NotInBook, WrongKind, NotHolder, TooDeep, TooLittleLeft, NoArc, ArcTaken, BookFull, NotInHand}

-- what the two rules of a register mean: by one come the arcs of panels, by the other those of offers
pub record Rules : Type 0 where
  pub panels : Meaning
  pub authorities : Meaning

-- 14. Does O stand in the book? 15. Is it open? 16. Is the caller its holder?
abbrev pub as_holder : Book → ℕ → List ℕ → (Entry → Ruling) → Ruling
as_holder book holder o others =
    there_is NotInBook (found o book) (λ authority.
    ask WrongKind (is_open authority.kind) (
    ask NotHolder (holder == authority.holder) (others authority)))

-- the questions that find an arc beside some children, put before those that follow
abbrev pub Finder : Type 0
Finder = List Entry → (ℕ → Ruling) → Ruling

-- 19. Is there an arc in the rule's set that no child of O has? The lowest is taken.
abbrev pub lowest_free : Meaning → List Entry → (ℕ → Ruling) → Ruling
lowest_free rule children others = there_is NoArc (free_arc rule.set children) others

-- For a claim: 19. Is A in the panel rule's set? 20. Has no child of O the arc A?
abbrev pub claimed : Meaning → ℕ → List Entry → (ℕ → Ruling) → Ruling
claimed rule arc children others = ask NoArc (in_set rule.set arc) (ask ArcTaken (not (is_taken arc children)) (others arc))

-- 21. Has the book fewer than 512 entries? Then the new entry is entered.
abbrev pub entering : Book → Entry → Ruling
entering book entry = ask BookFull (nat_lt (length book) most_entries) (enters entry)

-- What whoever gives is asked: after 14 to 16, 17. Has the new identifier at most 16 arcs? 18. Has O left what is needed?
abbrev pub as_giver : Book → ℕ → List ℕ → ℕ → (Entry → Ruling) → Ruling
as_giver book holder o needed others =
    as_holder book holder o (λ authority.
    ask TooDeep (nat_le (length o + 1) most_arcs) (
    ask TooLittleLeft (nat_le needed (left authority book)) (others authority)))

-- What grant, claim and offer share. After 14 to 18, 19 and 20 find the arc, and 21 comes last.
abbrev pub giving : Book → ℕ → List ℕ → ℕ → Finder → (Entry → ℕ → Entry) → Ruling
giving book holder o needed find_arc made =
    as_giver book holder o needed (λ authority.
    find_arc (children o book) (λ arc. entering book (made authority arc)))

-- a new panel, whose holder is its parent's
abbrev pub panel_below : List ℕ → Entry → ℕ → Entry
panel_below o authority arc = record { identifier = o ++ arc ∷ []; kind = Panel; holder = authority.holder; quota = 0 }

-- a new offer of a quota to a holder
abbrev pub offer_below : List ℕ → ℕ → ℕ → Entry → ℕ → Entry
offer_below o quota taker authority arc = record { identifier = o ++ arc ∷ []; kind = Offered; holder = taker; quota = quota }

-- 14. Does T stand in the book? 15. Is its kind one that the call changes? 16. Is the caller the right one? Then the kind is changed.
abbrev pub turning : Book → List ℕ → Event → (Entry → Bool) → (Entry → Answer) → Ruling
turning book t event by_right answer =
    there_is NotInBook (found t book) (λ entry.
    there_is WrongKind (next_kind entry.kind event) (λ kind.
    ask NotHolder (by_right entry) (turns t kind (answer entry))))

-- it is the holder of an entry, if there is one
abbrev pub is_held_by : ℕ → Option Entry → Bool
is_held_by holder None = false
is_held_by holder (Some entry) = holder == entry.holder

-- it is the holder of T's parent
abbrev pub holds_parent : ℕ → List ℕ → Book → Bool
holds_parent holder t book = is_held_by holder (parent_in t book)

-- 22. Is T in hand? Then its kind is changed: the events of a Grant's calls change nothing else.
abbrev pub spending : Book → List ℕ → Event → Ruling
spending book t event =
    there_is NotInHand (found t book) (λ entry.
    there_is NotInHand (next_kind entry.kind event) (λ kind. turns t kind (named t)))

-- what the questions of each call come to
abbrev pub ruling : Rules → Book → Call → Ruling
ruling rules book (grant holder o) = giving book holder o 1 (lowest_free rules.panels) (panel_below o)
ruling rules book (claim holder o arc) = giving book holder o 1 (claimed rules.panels arc) (panel_below o)
ruling rules book (offer holder o quota taker) =
    giving book holder o (1 + quota) (lowest_free rules.authorities) (offer_below o quota taker)
ruling rules book (accept taker t) = turning book t Accept (λ entry. taker == entry.holder) (λ entry. named t)
ruling rules book (decline taker t) = turning book t Decline (λ entry. taker == entry.holder) (λ entry. named t)
ruling rules book (collect taker t) =
    turning book t Collect (λ entry. taker == entry.holder) (λ entry. collected entry.holder entry.quota)
ruling rules book (retire holder t) = turning book t Retire (λ entry. holds_parent holder t book) (λ entry. named t)
ruling rules book (roll holder o from) =
    as_holder book holder o (λ authority. tells (listed o (from_arc from (in_order (children o book)))))
ruling rules book (accept_grant t) = spending book t AcceptGrant
ruling rules book (decline_grant t) = spending book t DeclineGrant

-- the rules' answer to a call, and the rules' book after it
abbrev pub answer : Rules → Book → Call → Answer
answer rules book call = answer_of (ruling rules book call)

abbrev pub after : Rules → Book → Call → Book
after rules book call = book_after (ruling rules book call) book

-- the same of calls one after the other
abbrev pub answers_to : Rules → Book → List Call → List Answer
answers_to rules book [] = []
answers_to rules book (call ∷ calls) = answer rules book call ∷ answers_to rules (after rules book call) calls

abbrev pub after_all : Rules → Book → List Call → Book
after_all rules book [] = book
after_all rules book (call ∷ calls) = after_all rules (after rules book call) calls
