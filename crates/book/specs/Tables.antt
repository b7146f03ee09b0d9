-- A third example, of tables written out: places, numbers, the limits of a founding, Grants of any kind, and what comes back.
use Rattle.std.specs.Prelude.{ℕ, ◌≡◌, List, [], ◌∷◌, map, true, false, Some, None, Option}
use Rattle.oid.specs.Tree.{most_arcs}
use Rattle.book.specs.Book.{Entry, most_entries, parent_in}
use Rattle.book.specs.Calls.{Call, grant, claim, offer, accept, decline, retire, roll, collect, accept_grant, decline_grant, place_of}
use Rattle.book.specs.Rulings.{Answer, refused, named, listed, collected}
use Rattle.book.specs.Questions.{after}
use Rattle.book.specs.Refusals.{number_of}
use Rattle.book.specs.Ranges.{most_quota, first_holder, last_holder}
use Rattle.book.specs.Founding.{Founding, founding_refusal, founding_number}
use Rattle.book.specs.Runs.{Back, handed, done, number, handed_back, written, too_short, Lines, line, collects, accepts_grant, back_at, made_by, after_made, placed, LineAnswer, unread, by_call, identifier_in}
use Rattle.book.specs.Grants.{Grant, spent, answer_spent}
use Rattle.book.specs.Example.{hall, hall_rules, hall_founding, below_hall}
use Rattle.book.specs.Edges.{hall_book, panel_of_7, offered_book, collected_book}
use Rattle.book.specs.declared.event.Event.TheVariants.{AcceptGrant}
use Rattle.book.specs.declared.kind.Kind.TheVariants.{Open}
use Rattle.book.specs.declared.refusal.Refusal.{Refusal}
use Rattle.book.specs.declared.refusal.Refusal.TheVariants.{NotInBook, WrongKind, NotHolder, TooDeep, TooLittleLeft, NoArc, ArcTaken, BookFull, NotInHand}
use Rattle.book.specs.declared.founding.FoundingRefusal.{FoundingRefusal}
use Rattle.book.specs.declared.founding.FoundingRefusal.TheVariants.{QuotaTooLarge, NoHolder}

-- the places of some calls: at O; at T's parent, with a Grant too; and none where T has two arcs
abbrev pub some_places : List (Call × Option (List ℕ))
some_places =
    (grant 7 (below_hall 1), Some (below_hall 1)) ∷ (claim 1 hall 100, Some hall) ∷ (offer 1 hall 4 7, Some hall) ∷ (roll 1 hall 0, Some hall)
    ∷ (accept 7 (below_hall 1), Some hall) ∷ (decline 7 (below_hall 1), Some hall) ∷ (retire 7 panel_of_7, Some (below_hall 1))
    ∷ (collect 7 (below_hall 1), Some hall) ∷ (accept_grant (below_hall 1), Some hall) ∷ (decline_grant (below_hall 1), Some hall)
    ∷ (retire 1 hall, None) ∷ (accept 1 hall, None) ∷ (decline 1 hall, None) ∷ (collect 1 hall, None)
    ∷ (accept_grant hall, None) ∷ (decline_grant hall, None) ∷ []

-- what comes back of answers to calls that no line makes
abbrev pub some_backs : List (Answer × Back)
some_backs =
    (collected 8 2, handed 8 2) ∷ (named hall, done) ∷ (refused NotInBook, number 14) ∷ (refused WrongKind, number 15)
    ∷ (refused NotHolder, number 16) ∷ (refused NotInHand, number 22) ∷ []

-- the refusals of calls, in the order of the questions
abbrev pub all_refusals : List Refusal
all_refusals = NotInBook ∷ WrongKind ∷ NotHolder ∷ TooDeep ∷ TooLittleLeft ∷ NoArc ∷ ArcTaken ∷ BookFull ∷ NotInHand ∷ []

-- the identifier that a line's answer has
abbrev pub some_answers : List (LineAnswer × Option (List ℕ))
some_answers =
    (unread, None) ∷ (by_call (refused NoArc), None) ∷ (by_call (named hall), Some hall) ∷ (by_call (listed hall []), Some hall)
    ∷ (by_call (collected 8 2), None) ∷ []

-- Grants that are spent at a register with the serial 5, in whose book 2.999.1 is in hand, in row 1. Only serial and row count: another's
-- Grant, one for the root and one for a row past the book are refused; holder and quota are not asked about.
abbrev pub grant_with : ℕ → ℕ → ℕ → ℕ → Grant
grant_with serial row holder quota = record { serial = serial; row = row; holder = holder; quota = quota }

abbrev pub some_grants : List (Grant × Answer)
some_grants =
    (grant_with 5 1 8 2, named (below_hall 1)) ∷ (grant_with 6 1 8 2, refused NotInHand) ∷ (grant_with 5 0 8 2, refused NotInHand)
    ∷ (grant_with 5 2 8 2, refused NotInHand) ∷ (grant_with 5 1 9 3, named (below_hall 1)) ∷ []

-- foundings of 2.999: 23 comes before 24, and the largest quota and the first and last holder are good
abbrev pub hall_with : ℕ → ℕ → Founding
hall_with holder quota = record hall_founding { holder = holder; quota = quota }

abbrev pub some_foundings : List (Founding × Option FoundingRefusal)
some_foundings =
    (hall_with 1 512, Some QuotaTooLarge) ∷ (hall_with 0 10, Some NoHolder) ∷ (hall_with 0 512, Some QuotaTooLarge)
    ∷ (hall_with 65536 10, Some NoHolder) ∷ (hall_with 65536 512, Some QuotaTooLarge)
    ∷ (hall_with 65535 511, None) ∷ (hall_with 1 0, None) ∷ []

-- What comes back of some exchanges, and what they leave, however lines are read and answered.
pub record SomeExchanges (lines : Lines) : Type 0 where
  -- a collect of what is offered gives its terms, and leaves it in hand
  pub collect_back : back_at lines hall_rules offered_book (collects 8 (below_hall 1)) ≡ handed 8 2
  pub collect_left : after_made hall_rules offered_book (made_by lines (collects 8 (below_hall 1))) ≡ collected_book
  -- a Grant for what is in hand is spent, and one for what is not is told 22
  pub accept_back : back_at lines hall_rules collected_book (accepts_grant (below_hall 1)) ≡ done
  pub accept_left : after_made hall_rules collected_book (made_by lines (accepts_grant (below_hall 1)))
      ≡ after hall_rules collected_book (accept_grant (below_hall 1))
  pub accept_refused : back_at lines hall_rules offered_book (accepts_grant (below_hall 1)) ≡ number 22
  -- a line whose page is too short keeps its place, and is told no more than that
  pub too_short_back : (bytes : List ℕ) (page : ℕ) → lines.has_room page ≡ false → lines.call_of bytes ≡ Some (grant 1 hall)
      → (back_at lines hall_rules offered_book (line bytes page) ≡ too_short) × (placed lines (line bytes page) ≡ Some hall)
  -- a line that could not be read is answered by its own bytes
  pub unread_back : (bytes : List ℕ) (page : ℕ) → lines.has_room page ≡ true → lines.call_of bytes ≡ None
      → back_at lines hall_rules offered_book (line bytes page) ≡ written (lines.bytes_of bytes page unread)

-- 2.999.1 after the ten calls
abbrev pub hall_authority : Entry
hall_authority = record { identifier = below_hall 1; kind = Open; holder = 7; quota = 4 }

-- The definitions have these tables.
pub record WrittenTables : Type 0 where
  pub places : map (λ row. place_of row.0) some_places ≡ map (λ row. row.1) some_places
  pub numbers : map number_of all_refusals ≡ 14 ∷ 15 ∷ 16 ∷ 17 ∷ 18 ∷ 19 ∷ 20 ∷ 21 ∷ 22 ∷ []
  pub foundings : map (λ row. founding_refusal row.0) some_foundings ≡ map (λ row. row.1) some_foundings
  pub founding_numbers : map (λ row. founding_number (founding_refusal row.0)) some_foundings ≡ 23 ∷ 24 ∷ 23 ∷ 24 ∷ 23 ∷ 0 ∷ 0 ∷ []
  -- the most entries, the largest quota, the first and the last holder, and the most arcs
  pub limits : most_entries ∷ most_quota ∷ first_holder ∷ last_holder ∷ most_arcs ∷ [] ≡ 512 ∷ 511 ∷ 1 ∷ 65535 ∷ 16 ∷ []
  -- the parent of a panel, and the root's, which does not stand in the book
  pub parents : map (λ t. parent_in t hall_book) (panel_of_7 ∷ hall ∷ []) ≡ Some hall_authority ∷ None ∷ []
  pub backs : map (λ row. handed_back row.0) some_backs ≡ map (λ row. row.1) some_backs
  pub identifiers : map (λ row. identifier_in row.0) some_answers ≡ map (λ row. row.1) some_answers
  pub grants : map (λ row. answer_spent (spent 5 collected_book row.0 AcceptGrant)) some_grants ≡ map (λ row. row.1) some_grants
  pub exchanges : (lines : Lines) → SomeExchanges lines
