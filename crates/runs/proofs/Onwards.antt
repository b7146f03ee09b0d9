-- A run that led to a book goes on there: the law holds of it together with what is served behind it.
use Rattle.std.proofs.Common.{◌≡◌, List, [], ◌∷◌, ◌++◌, refl}
use Rattle.book.specs.Book.{Book}
use Rattle.book.specs.Questions.{Rules}
use Rattle.book.specs.Runs.{Exchange, Serves, Runs, book_at_end}
use Rattle.book.specs.Law.{Start}
use Rattle.book.proofs.Theorems.{every_run}
use Rattle.request.specs.RequestLines.{request_lines}
use Rattle.request.proofs.ReadBack.{lines_recover}
use Rattle.runs.specs.Desks.{LedTo, GoesOn, LawKept}
use Rattle.runs.proofs.Joined.{joined}

pub goes_on : (start : Start) (earlier more : List Exchange) (rules : Rules) (before after : Book) → LedTo start earlier rules before
    → Runs request_lines rules before more → book_at_end before more ≡ after → GoesOn start (earlier ++ more) rules after
goes_on start earlier more rules before after led runs ends =
    let both = joined start.rules rules start.book before after earlier more led.runs led.ends led.by_rules runs ends in
    record {
      led = record { begins = led.begins; by_rules = led.by_rules; runs = both.0; ends = both.1 };
      law = every_run request_lines lines_recover start led.begins (earlier ++ more) both.0;
    }

-- and with one exchange
pub law_kept : (rules : Rules) (before : Book) (exchange : Exchange) → Serves request_lines rules before exchange → LawKept rules before exchange
law_kept rules before exchange served start run led =
    goes_on start run (exchange ∷ []) rules before exchange.book led (served, tt) refl
