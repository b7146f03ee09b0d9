-- Runs that go on: with one exchange more, and with another run behind them.
use Rattle.std.proofs.Common.{◌≡◌, List, [], ◌∷◌, ◌++◌, refl}
use Rattle.book.specs.Book.{Book}
use Rattle.book.specs.Questions.{Rules}
use Rattle.book.specs.Runs.{Lines, Exchange, Serves, Runs, book_at_end}

-- a run that begins where another ended, behind it
pub runs_joined : (lines : Lines) (rules : Rules) (book : Book) (run more : List Exchange) → Runs lines rules book run
    → Runs lines rules (book_at_end book run) more → Runs lines rules book (run ++ more)
runs_joined lines rules book [] more runs others = others
runs_joined lines rules book (exchange ∷ run) more runs others = (runs.0, runs_joined lines rules exchange.book run more runs.1 others)

pub end_joined : (book : Book) (run more : List Exchange) → book_at_end book (run ++ more) ≡ book_at_end (book_at_end book run) more
end_joined book [] more = refl
end_joined book (exchange ∷ run) more = end_joined exchange.book run more

-- one exchange more
pub runs_more : (lines : Lines) (rules : Rules) (book : Book) (run : List Exchange) (exchange : Exchange) → Runs lines rules book run
    → Serves lines rules (book_at_end book run) exchange → Runs lines rules book (run ++ exchange ∷ [])
runs_more lines rules book run exchange runs served = runs_joined lines rules book run (exchange ∷ []) runs (served, tt)

pub end_more : (book : Book) (run : List Exchange) (exchange : Exchange) → book_at_end book (run ++ exchange ∷ []) ≡ exchange.book
end_more book run exchange = end_joined book run (exchange ∷ [])
