-- Runs: what is sent, what comes back, and the book after each exchange.
use Rattle.std.specs.Prelude.{ℕ, ◌≡◌, Bool, true, cond, List, [], ◌∷◌, Some, None, Option, ⊤}
use Rattle.std.specs.Option.{option_map, option_and_then, ForSome}
use Rattle.oid.specs.Tree.{is_identifier}
use Rattle.book.specs.Refusals.{number_of}
use Rattle.book.specs.Book.{Book}
use Rattle.book.specs.Calls.{Call, collect, accept_grant, decline_grant, place_of}
use Rattle.book.specs.Rulings.{Answer, refused, named, listed, collected}
use Rattle.book.specs.Questions.{Rules, answer, after}

-- What is sent: a line, by its bytes, with the length of its page; or a call that no line makes, with the identifier that it names, and
-- for a collect the caller.
pub data Sent : Type 0 where
  line : List ℕ → ℕ → Sent
  collects : ℕ → List ℕ → Sent
  accepts_grant : List ℕ → Sent
  declines_grant : List ℕ → Sent

-- What comes back: for a line that its page is too short, which is 9, or the bytes that are written; for the other calls a Grant's holder and quota,
-- that it is done, or the number of a refusal.
pub data Back : Type 0 where
  too_short : Back
  written : List ℕ → Back
  handed : ℕ → ℕ → Back
  done : Back
  number : ℕ → Back

-- What a line is answered: that it could not be read, or what the call that it makes is answered.
pub data LineAnswer : Type 0 where
  unread : LineAnswer
  by_call : Answer → LineAnswer

-- the identifier that an `ok` answer has: new, or named by the call
abbrev pub identifier_in : LineAnswer → Option (List ℕ)
identifier_in unread = None
identifier_in (by_call (refused refusal)) = None
identifier_in (by_call (named identifier)) = Some identifier
identifier_in (by_call (listed identifier children)) = Some identifier
identifier_in (by_call (collected holder quota)) = None

-- How lines are read and answered. Nothing else of them matters here: any such functions will do, if they recover.
pub record Lines : Type 0 where
  -- the call that a line makes; none where it could not be read
  pub call_of : List ℕ → Option Call
  -- a page of some length is long enough for an answer
  pub has_room : ℕ → Bool
  -- what is written for a line, on a page of some length, of an answer; the line itself may tell where in it a fault was found
  pub bytes_of : List ℕ → ℕ → LineAnswer → List ℕ
  -- the identifier in an `ok` line, taken from the bytes that were written; none of any other answer
  pub recover : List ℕ → Option (List ℕ)

-- From what is written for a line, on a page that is long enough, the identifier of an `ok` answer can be told, and none from any other
-- answer.
abbrev pub Recovers : Lines → Type 0
Recovers lines = (bytes : List ℕ) (page : ℕ) (answer : LineAnswer) → lines.has_room page ≡ true
    → ForSome (identifier_in answer) (λ identifier. is_identifier identifier ≡ true)
    → lines.recover (lines.bytes_of bytes page answer) ≡ identifier_in answer

-- the call that something sent would make, were its page long enough; none for a line that could not be read
abbrev pub call_in : Lines → Sent → Option Call
call_in lines (line bytes page) = lines.call_of bytes
call_in lines (collects taker t) = Some (collect taker t)
call_in lines (accepts_grant t) = Some (accept_grant t)
call_in lines (declines_grant t) = Some (decline_grant t)

-- Its place: of a line, too, whose page alone is too short. A line that could not be read has none.
abbrev pub placed : Lines → Sent → Option (List ℕ)
placed lines sent = option_and_then place_of (call_in lines sent)

-- only a line's page can be too short
abbrev pub page_fits : Lines → Sent → Bool
page_fits lines (line bytes page) = lines.has_room page
page_fits lines sent = true

-- the call that is made, and put to the book: none by a line whose page is too short, whatever its text is
abbrev pub made_by : Lines → Sent → Option Call
made_by lines sent = cond (page_fits lines sent) (call_in lines sent) None

-- what a line is answered, by the answer to its call, if it made one
abbrev pub line_answer : Option Answer → LineAnswer
line_answer None = unread
line_answer (Some answer) = by_call answer

-- What comes back of an answer to a call that no line makes. A roll never comes here.
abbrev pub handed_back : Answer → Back
handed_back (refused refusal) = number (number_of refusal)
handed_back (named identifier) = done
handed_back (listed identifier children) = done
handed_back (collected holder quota) = handed holder quota

-- the rules' answer to a line at a book
abbrev pub answer_to : Lines → Rules → Book → List ℕ → LineAnswer
answer_to lines rules book bytes = line_answer (option_map (answer rules book) (lines.call_of bytes))

-- what the rules send back at a book
abbrev pub back_at : Lines → Rules → Book → Sent → Back
back_at lines rules book (line bytes page) =
    cond (lines.has_room page) (written (lines.bytes_of bytes page (answer_to lines rules book bytes))) too_short
back_at lines rules book (collects taker t) = handed_back (answer rules book (collect taker t))
back_at lines rules book (accepts_grant t) = handed_back (answer rules book (accept_grant t))
back_at lines rules book (declines_grant t) = handed_back (answer rules book (decline_grant t))

-- the book after a call, or the same book where none was made
abbrev pub after_made : Rules → Book → Option Call → Book
after_made rules book None = book
after_made rules book (Some call) = after rules book call

-- An exchange: what was sent, what came back, and the book after.
pub record Exchange : Type 0 where
  pub sent : Sent
  pub back : Back
  pub book : Book

-- An exchange is served by the rules: what came back is their answer at the book before, and the book after is theirs.
pub record Serves (lines : Lines) (rules : Rules) (before : Book) (exchange : Exchange) : Type 0 where
  pub answered : exchange.back ≡ back_at lines rules before exchange.sent
  pub leaves : exchange.book ≡ after_made rules before (made_by lines exchange.sent)

-- A run: each exchange is served at the book that the one before it left.
abbrev pub Runs : Lines → Rules → Book → List Exchange → Type 0
Runs lines rules book [] = ⊤
Runs lines rules book (exchange ∷ run) = Serves lines rules book exchange × Runs lines rules exchange.book run

-- the book that a run leaves
abbrev pub book_at_end : Book → List Exchange → Book
book_at_end book [] = book
book_at_end book (exchange ∷ run) = book_at_end exchange.book run
