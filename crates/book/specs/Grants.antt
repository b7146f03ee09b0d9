-- Grants: question 22 of any of them, and which are the register's own.
use Rattle.std.specs.Prelude.{ℕ, ◌≡◌, cond, List, position, slice_get, Some, None, Option, ◌==◌}
use Rattle.book.specs.Book.{Entry, Book, is_at}
use Rattle.book.specs.Changes.{next_in, with_entry}
use Rattle.book.specs.Calls.{Call, collect, accept_grant, decline_grant}
use Rattle.book.specs.Rulings.{Answer, refused, named, collected}
use Rattle.book.specs.Questions.{Rules, answer, after}
use Rattle.book.specs.declared.event.Event.{Event}
use Rattle.book.specs.declared.event.Event.TheVariants.{AcceptGrant, DeclineGrant}
use Rattle.book.specs.declared.refusal.Refusal.TheVariants.{NotInHand}

-- A Grant: the serial of the register that gave it, the number of the entry's row in the book, and the entry's holder and quota.
pub record Grant : Type 0 where
  pub serial : ℕ
  pub row : ℕ
  pub holder : ℕ
  pub quota : ℕ

-- 22. Has the Grant this register's serial, and is its entry in hand? Then this is what the entry becomes; none for a no. The event is one
-- of a Grant's: those change only what is in hand.
abbrev pub spent : ℕ → Book → Grant → Event → Option Entry
spent serial book grant event = cond (grant.serial == serial) (next_in book grant.row event) None

-- The answer to a spent Grant; the book after it has what the entry becomes in the Grant's row. After a no the Grant is still there.
abbrev pub answer_spent : Option Entry → Answer
answer_spent None = refused NotInHand
answer_spent (Some entry) = named entry.identifier

-- A Grant is the register's own for T: it is the one that the register gives for the first row with T's identifier.
pub record IsOwn (serial : ℕ) (book : Book) (t : List ℕ) (grant : Grant) : Type 0 where
  pub entry : Entry
  pub first : position (is_at t) book ≡ Some grant.row
  pub stands : slice_get book grant.row ≡ Some entry
  pub holder : grant.holder ≡ entry.holder
  pub quota : grant.quota ≡ entry.quota
  pub its_serial : grant.serial ≡ serial

-- spending a Grant comes to what a call does
pub record DoesAs (rules : Rules) (serial : ℕ) (book : Book) (grant : Grant) (event : Event) (call : Call) : Type 0 where
  pub answers : answer_spent (spent serial book grant event) ≡ answer rules book call
  pub leaves : with_entry grant.row (spent serial book grant event) book ≡ after rules book call

-- The register's own Grant for T does what the calls do that name T.
abbrev pub OwnGrants : Type 0
OwnGrants = (rules : Rules) (serial : ℕ) (book : Book) (t : List ℕ) (grant : Grant) → IsOwn serial book t grant
    → DoesAs rules serial book grant AcceptGrant (accept_grant t) × DoesAs rules serial book grant DeclineGrant (decline_grant t)

-- What a collect gives is the register's own Grant for T, with the holder and the quota that it is answered with.
abbrev pub CollectsGiveOwn : Type 0
CollectsGiveOwn = (rules : Rules) (serial : ℕ) (book : Book) (taker : ℕ) (t : List ℕ) (holder quota : ℕ)
    → answer rules book (collect taker t) ≡ collected holder quota
    → (row : ℕ) × IsOwn serial (after rules book (collect taker t)) t (record { serial = serial; row = row; holder = holder; quota = quota })

-- A Grant that is the register's own stays so, whatever is called.
abbrev pub OwnGrantsStay : Type 0
OwnGrantsStay = (rules : Rules) (serial : ℕ) (book : Book) (t : List ℕ) (grant : Grant) (call : Call)
    → IsOwn serial book t grant → IsOwn serial (after rules book call) t grant
