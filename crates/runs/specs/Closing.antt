-- The end of a desk.
use Rattle.std.specs.Prelude.{ℕ, ◌≡◌, List, ◌++◌, length, count_by, All}
use Rattle.book.specs.Book.{Book}
use Rattle.book.specs.Questions.{Rules}
use Rattle.book.specs.Runs.{declines_grant, done, Exchange, Runs, book_at_end}
use Rattle.book.specs.Law.{Start}
use Rattle.request.specs.RequestLines.{request_lines}
use Rattle.runs.specs.Hands.{in_hand}
use Rattle.runs.specs.Desks.{LedTo, GoesOn}

-- An exchange is a decline with a Grant, and it passed.
pub record PassedDecline (exchange : Exchange) : Type 0 where
  pub identifier : List ℕ
  pub sent : exchange.sent ≡ declines_grant identifier
  pub back : exchange.back ≡ done

-- From one book to another leads a run of declines, one for each entry in hand; then none is in hand any more. The run goes on with every
-- run that led to the first book, and of both together the law holds.
pub record Closes (rules : Rules) (before after : Book) : Type 0 where
  pub run : List Exchange
  pub runs : Runs request_lines rules before run
  pub ends : book_at_end before run ≡ after
  pub declines : All PassedDecline run
  pub as_many : length run ≡ count_by in_hand before
  pub none_in_hand : count_by in_hand after ≡ 0
  pub law : (start : Start) (earlier : List Exchange) → LedTo start earlier rules before → GoesOn start (earlier ++ run) rules after
