-- Lines of input, one after the other: what each does to the state that a program is in.
use Rattle.std.specs.Prelude.{ℕ, ◌+◌, cond, List, [], ◌∷◌, ◌++◌, take, fold, Option, Result}
use Rattle.std.specs.Io.KnownBytes.{append_known}
use Rattle.book.specs.Book.{Book}
use Rattle.book.specs.Founding.{Founding, founding_refusal, founded}
use Rattle.book.specs.Questions.{Rules}
use Rattle.book.specs.Runs.{line, back_at, made_by, after_made}
use Rattle.book.specs.declared.founding.FoundingRefusal.{FoundingRefusal}
use Rattle.counter.specs.Calls.{Call}
use Rattle.counter.specs.Reading.{is_counter, read_call}
use Rattle.counter.specs.declared.no_call.NoCall.{NoCall}
use Rattle.hall.specs.Served.{printed}
use Rattle.input.specs.Limits.{line_limit, line_feed}
use Rattle.request.specs.RequestLines.{request_lines}
use Rattle.desk.specs.Answers.{told_at, book_after}
use Rattle.desk.specs.Told.{told_text}

-- The rules; why the founding was refused, if it was; the length of the page; the book; and all that was written, where that is known.
pub record State : Type 0 where
  pub rules : Rules
  pub refusal : Option FoundingRefusal
  pub page_length : ℕ
  pub book : Book
  pub output : Option (List ℕ)

-- just founded
abbrev pub at_founding : Founding → ℕ → Option (List ℕ) → State
at_founding founding page_length output = record {
  rules = founding.rules;
  refusal = founding_refusal founding;
  page_length = page_length;
  book = founded founding;
  output = output;
}

-- another book, and more that was written
abbrev pub goes_on : State → Book → List ℕ → State
goes_on state book answer = record {
  rules = state.rules;
  refusal = state.refusal;
  page_length = state.page_length;
  book = book;
  output = append_known state.output answer;
}

-- A counter call that was read, or could not be: it is answered by one line.
abbrev pub counter_served : State → Result Call NoCall → State
counter_served state call =
    goes_on state (book_after state.rules state.book call) (told_text (told_at state.rules state.refusal state.book call) ++ line_feed ∷ [])

-- A request line: it is answered as the rules answer what is sent.
abbrev pub request_served : State → List ℕ → State
request_served state bytes =
    goes_on state (after_made state.rules state.book (made_by request_lines (line bytes state.page_length)))
    (printed (back_at request_lines state.rules state.book (line bytes state.page_length)))

-- the bytes of a line that are kept: all, but of one that is too long
abbrev pub kept : List ℕ → List ℕ
kept bytes = take (line_limit + 1) bytes

-- a line, by what it is for
abbrev pub served : State → List ℕ → State
served state bytes = cond (is_counter (kept bytes)) (counter_served state (read_call (kept bytes))) (request_served state bytes)

-- all lines, in order
abbrev pub all_served : State → List (List ℕ) → State
all_served state lines = fold served state lines
