-- Runs one behind the other.
use Rattle.std.proofs.Common.{◌≡◌, List, ◌++◌, sym, ap, ◌∙◌, subst}
use Rattle.book.specs.Book.{Book}
use Rattle.book.specs.Questions.{Rules}
use Rattle.book.specs.Runs.{Exchange, Runs, book_at_end}
use Rattle.book.proofs.Longer.{runs_joined, end_joined}
use Rattle.request.specs.RequestLines.{request_lines}

-- a run by the same rules from the book that another one led to, behind that one
pub joined : (rules rules_between : Rules) (before between after : Book) (run more : List Exchange) → Runs request_lines rules before run
    → book_at_end before run ≡ between → rules ≡ rules_between → Runs request_lines rules_between between more
    → book_at_end between more ≡ after → Runs request_lines rules before (run ++ more) × (book_at_end before (run ++ more) ≡ after)
joined rules rules_between before between after run more runs ends stay others end =
    let there = subst (λ book. Runs request_lines rules book more) (sym ends) (subst (λ rules. Runs request_lines rules between more) (sym stay) others) in
    (runs_joined request_lines rules before run more runs there, end_joined before run more ∙ ap (λ book. book_at_end book more) ends ∙ end)
