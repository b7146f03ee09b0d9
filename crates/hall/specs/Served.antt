-- Lines of input served, and what is printed of them.
use Rattle.std.specs.Prelude.{ℕ, ◌≡◌, List, [], ◌++◌, map, codes, OnOk, Option, Result}
use Rattle.std.specs.Io.KnownBytes.{Appends}
use Rattle.std.specs.List.{flat_map}
use Rattle.book.specs.Book.{Book}
use Rattle.book.specs.Questions.{Rules}
use Rattle.book.specs.Runs.{line, Back, too_short, written, handed, done, number, Exchange, Serves, Runs, book_at_end}
use Rattle.book.specs.Law.{Start}
use Rattle.request.specs.RequestLines.{request_lines}
use Rattle.runs.specs.Desks.{LedTo, GoesOn}

-- what is printed of what comes back of a line: the bytes that are written, or that the page is too short; nothing comes back else
abbrev pub printed : Back → List ℕ
printed too_short = codes "9\n"
printed (written bytes) = bytes
printed (handed holder quota) = []
printed done = []
printed (number n) = []

-- A line is served by the rules, at the book before and on a page of some length: their answer comes back, and the book after is theirs.
-- And where writing passed, the output has what is printed of it more.
pub record LineServed {Done Error : Type 0} (rules : Rules) (before : Book) (bytes : List ℕ) (page_length : ℕ) (after : Book) (writing : Result Done Error) (output output_after : Option (List ℕ)) : Type 0 where
  pub back : Back
  pub serves : Serves request_lines rules before (record { sent = line bytes page_length; back = back; book = after })
  pub prints : OnOk writing (Appends output output_after (printed back))

-- Lines are served, one after the other, each on a page of some length: a run that sends them leads from the book before to the one after;
-- it goes on with every run that led to the book before, and of both together the law holds. And the output has what is printed of it more.
pub record LinesServed (rules : Rules) (before : Book) (lines : List (List ℕ)) (page_length : ℕ) (after : Book) (output output_after : Option (List ℕ)) : Type 0 where
  pub run : List Exchange
  pub runs : Runs request_lines rules before run
  pub ends : book_at_end before run ≡ after
  pub sent : map (λ exchange. exchange.sent) run ≡ map (λ bytes. line bytes page_length) lines
  pub prints : Appends output output_after (flat_map (λ exchange. printed exchange.back) run)
  pub law : (start : Start) (earlier : List Exchange) → LedTo start earlier rules before → GoesOn start (earlier ++ run) rules after
