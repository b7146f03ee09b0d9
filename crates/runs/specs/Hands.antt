-- Hands: the Grants that a register has handed out, and what is true of them beside its book.
use Rattle.std.specs.Prelude.{ℕ, ◌≡◌, Bool, true, false, cond, ◌&&◌, ◌==◌, List, length, position, slice_get, count_by, Some, None, Ok, Err, Option, Result}
use Rattle.std.specs.List.{list_all}
use Rattle.std.specs.Option.{option_eq}
use Rattle.book.specs.Book.{Entry, Book, same, is_at, found}
use Rattle.book.specs.Grants.{Grant}
use Rattle.register.specs.declared.grant.Terms.{Terms}
use Rattle.book.specs.declared.refusal.Refusal.{Refusal}
use Rattle.book.specs.declared.refusal.Refusal.TheVariants.{NotInHand}
use Rattle.book.specs.declared.kind.Kind.{Kind}
use Rattle.book.specs.declared.kind.Kind.TheVariants.{InHand}

-- A Grant that is out, and the identifier T that it was collected for.
pub record Held : Type 0 where
  pub identifier : List ℕ
  pub grant : Grant

-- a Grant that is out is one for T
abbrev pub is_for : List ℕ → Held → Bool
is_for t held = same held.identifier t

-- the entry has the Grant's holder and quota
abbrev pub has_terms : Grant → Option Entry → Bool
has_terms grant None = false
has_terms grant (Some entry) = (grant.holder == entry.holder) && (grant.quota == entry.quota)

-- The Grant is the register's own for T: it has its serial, its row is the first with T's identifier, and its terms are those of the
-- entry there. It is what `IsOwn` says, as a test, which is what a fact of a type can be.
abbrev pub is_own : ℕ → Book → Held → Bool
is_own serial book held =
    (held.grant.serial == serial)
    && (option_eq ◌==◌ (position (is_at held.identifier) book) (Some held.grant.row) && has_terms held.grant (slice_get book held.grant.row))

-- an entry is in hand, by its kind
abbrev pub kind_in_hand : Kind → Bool
kind_in_hand InHand = true
kind_in_hand kind = false

abbrev pub in_hand : Entry → Bool
in_hand entry = kind_in_hand entry.kind

-- what is found for T, if anything is, is in hand
abbrev pub found_in_hand : Option Entry → Bool
found_in_hand None = false
found_in_hand (Some entry) = in_hand entry

abbrev pub is_in_hand : List ℕ → Book → Bool
is_in_hand t book = found_in_hand (found t book)

-- 1 for a yes, 0 for a no
abbrev pub flag : Bool → ℕ
flag holds = cond holds 1 0

-- Each Grant that is out is the register's own.
abbrev pub AllOwn : ℕ → Book → List Held → Type 0
AllOwn serial book held = list_all (is_own serial book) held ≡ true

-- Of each identifier one Grant is out where it is in hand, and none where it is not.
abbrev pub EachOnce : Book → List Held → Type 0
EachOnce book held = (t : List ℕ) → count_by (is_for t) held ≡ flag (is_in_hand t book)

-- As many Grants are out as entries of the book are in hand.
abbrev pub AsMany : Book → List Held → Type 0
AsMany book held = length held ≡ count_by in_hand book

-- All three.
pub record Hands (serial : ℕ) (book : Book) (held : List Held) : Type 0 where
  pub own : AllOwn serial book held
  pub each_once : EachOnce book held
  pub as_many : AsMany book held

-- The terms that a Grant for T has: those of what is found for T, where that is in hand; else there is no such Grant.
abbrev pub terms_in : Option Entry → Result Terms Refusal
terms_in None = Err NotInHand
terms_in (Some entry) = cond (in_hand entry) (Ok (record { holder = entry.holder; quota = entry.quota })) (Err NotInHand)

abbrev pub told_terms : List ℕ → Book → Result Terms Refusal
told_terms t book = terms_in (found t book)
