-- What a desk means, and what is said of runs that led to one.
use Rattle.std.specs.Prelude.{◌≡◌, List, [], ◌∷◌, ◌++◌}
use Rattle.arc_rules.specs.Rules.{Meaning}
use Rattle.book.specs.Book.{Book}
use Rattle.book.specs.Questions.{Rules}
use Rattle.book.specs.Runs.{Exchange, Runs, book_at_end}
use Rattle.book.specs.Law.{Start, Begins, Law}
use Rattle.register.specs.Registers as register
use Rattle.register.specs.declared.register.Register.{Register}
use Rattle.request.specs.RequestLines.{request_lines}
use Rattle.runs.specs.declared.desk.Desk.{Desk}

abbrev pub register_of : {P A : Type 0} → Desk P A → Register P A
register_of desk = desk.register

-- a desk's book, rules and serial are its register's
abbrev pub book_at : {P A : Type 0} → Desk P A → Book
book_at desk = register.book_of desk.register

abbrev pub rules_at : {P A : Type 0} → (P → Meaning) → (A → Meaning) → Desk P A → Rules
rules_at panels authorities desk = register.rules_of panels authorities desk.register

-- A run from a start led to rules and a book: each exchange was served, and the book is the one that the last left.
pub record LedTo (start : Start) (run : List Exchange) (rules : Rules) (book : Book) : Type 0 where
  pub begins : Begins start
  pub by_rules : start.rules ≡ rules
  pub runs : Runs request_lines start.rules start.book run
  pub ends : book_at_end start.book run ≡ book

-- A run from a start led to rules and a book, and the law holds of it.
pub record GoesOn (start : Start) (run : List Exchange) (rules : Rules) (after : Book) : Type 0 where
  pub led : LedTo start run rules after
  pub law : Law request_lines start run

-- Whatever run led to the rules and the book before an exchange, with the exchange it led to the book after, and the law holds of it.
abbrev pub LawKept : Rules → Book → Exchange → Type 0
LawKept rules before exchange =
    (start : Start) (run : List Exchange) → LedTo start run rules before → GoesOn start (run ++ exchange ∷ []) rules exchange.book
