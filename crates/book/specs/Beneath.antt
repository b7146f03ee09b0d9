-- What holds of the book after any calls, beneath the law; and what runs have to do with calls.
use Rattle.std.specs.Prelude.{ℕ, ◌+◌, ◌≤◌, ◌≡◌, ◌≢◌, ◌⊎◌, Bool, true, false, cond, List, [], ◌∷◌, length, map, filter_map, slice_get, sum_by, AllPairs, Some, None}
use Rattle.oid.specs.Tree.{is_identifier}
use Rattle.book.specs.Kinds.{is_authority, holds_quota}
use Rattle.book.specs.Book.{Entry, Book, most_entries, found, parent_in}
use Rattle.book.specs.Left.{left}
use Rattle.book.specs.Calls.{Call, accept_grant, decline_grant}
use Rattle.book.specs.Rulings.{refused}
use Rattle.book.specs.Questions.{Rules, answer, after_all}
use Rattle.book.specs.Founding.{Founding, founding_refusal, founded}
use Rattle.book.specs.Runs.{Sent, Lines, Recovers, made_by, Exchange, Runs, book_at_end}
use Rattle.book.specs.declared.kind.Kind.{Kind}
use Rattle.book.specs.declared.kind.Kind.TheVariants.{Panel, Retired, Offered, InHand, Open, Declined}
use Rattle.book.specs.declared.refusal.Refusal.TheVariants.{NotInBook, BookFull, NotInHand}
use Rattle.book.specs.declared.founding.FoundingRefusal.{FoundingRefusal}

-- the calls that a run made
abbrev pub calls_in : Lines → List Exchange → List Call
calls_in lines run = filter_map (λ exchange. made_by lines exchange.sent) run

-- A run leaves the book that its calls leave. So what holds of the book after any calls holds of it after any run.
abbrev pub RunsAreCalls : Type 0
RunsAreCalls = (lines : Lines) (rules : Rules) (book : Book) (run : List Exchange) → Runs lines rules book run
    → book_at_end book run ≡ after_all rules book (calls_in lines run)

-- Whatever is sent, there is a run in which it is sent, and only one.
abbrev pub OneRun : Type 0
OneRun = (lines : Lines) (rules : Rules) (book : Book) (sent : List Sent)
    → (run : List Exchange) × Runs lines rules book run × (map (λ exchange. exchange.sent) run ≡ sent)
    × ((other : List Exchange) → Runs lines rules book other → map (λ exchange. exchange.sent) other ≡ sent → other ≡ run)

-- Lines can be read and answered so: for any calls there is a way by which a line of one number makes the call at that place in the list,
-- counted from 0, every page is long enough, and identifiers are recovered.
abbrev pub SomeLines : Type 0
SomeLines = (calls : List Call) → (lines : Lines) × Recovers lines
    × ((number page : ℕ) → (lines.call_of (number ∷ []) ≡ slice_get calls number) × (lines.has_room page ≡ true))

-- what all that are offered, in hand or open have left
abbrev pub all_left : Book → ℕ
all_left book = sum_by (λ entry. cond (holds_quota entry.kind) (left entry book) 0) book

-- A book after a good founding: its entries and what they have left are one more than the root's quota. So it never has too many, and the
-- question about that never refuses.
pub record Counted (founding : Founding) (book : Book) : Type 0 where
  pub adds_up : length book + all_left book ≡ 1 + founding.quota
  pub few : length book ≤ most_entries
  pub never_full : (call : Call) → answer founding.rules book call ≢ refused BookFull

abbrev pub GoodFoundings : Type 0
GoodFoundings = (founding : Founding) → is_identifier founding.root ≡ true → founding_refusal founding ≡ None
    → (calls : List Call) → Counted founding (after_all founding.rules (founded founding) calls)

-- the calls that spend a Grant
abbrev pub by_grant : Call → Bool
by_grant (accept_grant t) = true
by_grant (decline_grant t) = true
by_grant call = false

-- After a refused founding the book stays empty, and every call without a Grant is told that what it names does not stand in it.
abbrev pub RefusedFoundings : Type 0
RefusedFoundings = (founding : Founding) (refusal : FoundingRefusal) → founding_refusal founding ≡ Some refusal
    → (calls : List Call) → (after_all founding.rules (founded founding) calls ≡ [])
    × ((call : Call) → answer founding.rules (after_all founding.rules (founded founding) calls) call
    ≡ refused (cond (by_grant call) NotInHand NotInBook))

-- The book is a set: no two of its entries have one identifier.
abbrev pub EntriesApart : Type 0
EntriesApart = (founding : Founding) → is_identifier founding.root ≡ true
    → (calls : List Call) → AllPairs (λ one other. one.identifier ≢ other.identifier) (after_all founding.rules (founded founding) calls)

-- the parent of what an identifier finds stands in the book, and has the same holder
pub record HasParentsHolder (book : Book) (identifier : List ℕ) (entry : Entry) : Type 0 where
  pub authority : Entry
  pub parent : parent_in identifier book ≡ Some authority
  pub holder : entry.holder ≡ authority.holder

-- A panel's holder is its parent's, also when it is retired.
abbrev pub PanelsHolders : Type 0
PanelsHolders = (founding : Founding) → is_identifier founding.root ≡ true
    → (calls : List Call) (identifier : List ℕ) (panel : Entry) → found identifier (after_all founding.rules (founded founding) calls) ≡ Some panel
    → is_authority panel.kind ≡ false → HasParentsHolder (after_all founding.rules (founded founding) calls) identifier panel

-- How a kind may change, in one call or in several. The table of single changes is `next_kind`; this one is written out again, so that
-- a change more there would show.
abbrev pub may_become : Kind → Kind → Bool
may_become Panel Retired = true
may_become Offered InHand = true
may_become Offered Open = true
may_become Offered Declined = true
may_become InHand Open = true
may_become InHand Declined = true
may_become kind other = false

-- what later stands for an entry is the same but for its kind, and that only changes so
pub record Becomes (entry later : Entry) : Type 0 where
  pub identifier : later.identifier ≡ entry.identifier
  pub holder : later.holder ≡ entry.holder
  pub quota : later.quota ≡ entry.quota
  pub kind : (later.kind ≡ entry.kind) ⊎ (may_become entry.kind later.kind ≡ true)

-- No entry is ever removed, by any calls at any book.
abbrev pub EntriesStay : Type 0
EntriesStay = (rules : Rules) (book : Book) (calls : List Call) (identifier : List ℕ) (entry : Entry) → found identifier book ≡ Some entry
    → (later : Entry) × (found identifier (after_all rules book calls) ≡ Some later) × Becomes entry later
