-- What a register does with a line.
use Rattle.std.specs.Prelude.{ℕ, ◌≡◌, Bool, true, false, List, length, take, drop, Ok, Err, Result}
use Rattle.book.specs.Book.{Book}
use Rattle.book.specs.Rulings.{listed}
use Rattle.book.specs.Questions.{Rules}
use Rattle.book.specs.Runs.{LineAnswer, by_call, answer_to, line, Back, written, too_short, Exchange}
use Rattle.request.specs.Answers.{answer_bytes}
use Rattle.request.specs.RequestLines.{request_lines}
use Rattle.request.specs.declared.page.PageRefusal.{PageRefusal}

-- the bytes of the rules' answer to a line at a book, on a page of some length
abbrev pub bytes_to : Rules → Book → List ℕ → ℕ → List ℕ
bytes_to rules book bytes page_length = answer_bytes bytes page_length (answer_to request_lines rules book bytes)

-- what comes back of a line: that its page is too short, or the bytes that are written on it
abbrev pub back_of : Result ℕ PageRefusal → List ℕ → Back
back_of (Ok length) page = written (take length page)
back_of (Err refusal) page = too_short

-- a line sent on a page of some length, what came back of it, and the book after
abbrev pub line_exchange : List ℕ → ℕ → Result ℕ PageRefusal → List ℕ → Book → Exchange
line_exchange bytes page_length result page after = record { sent = line bytes page_length; back = back_of result page; book = after }

-- Bytes stand at the front of a page, which is as long as it was; and where `stays` is true, what is behind them is as it was.
pub record OnPage (bytes : List ℕ) (stays : Bool) (page page_after : List ℕ) : Type 0 where
  pub there : take (length bytes) page_after ≡ bytes
  pub long : length page_after ≡ length page
  pub beyond : stays ≡ true → drop (length bytes) page_after ≡ drop (length bytes) page

-- Behind an answer the page stays, but for a roll's yes.
abbrev pub keeps_beyond : LineAnswer → Bool
keeps_beyond (by_call (listed identifier children)) = false
keeps_beyond answer = true
