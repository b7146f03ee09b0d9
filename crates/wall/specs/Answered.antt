-- What the program answers.
use Rattle.std.specs.Prelude.{ℕ, ◌≡◌, List, map, Option}
use Rattle.std.specs.List.{flat_map}
use Rattle.std.specs.Io.KnownBytes.{Appends}
use Rattle.book.specs.Founding.{Founding, founded}
use Rattle.book.specs.Law.{Law, at_founding}
use Rattle.book.specs.Runs.{line, Exchange, Runs}
use Rattle.request.specs.RequestLines.{request_lines}
use Rattle.hall.specs.Served.{printed}

-- From a founding, lines are answered one after the other, each on a page of some length: a run sends them, served by the rules, and the law
-- holds of it; and the output has what is printed of it more.
pub record Answered (founding : Founding) (page_length : ℕ) (lines : List (List ℕ)) (output output_after : Option (List ℕ)) : Type 0 where
  pub run : List Exchange
  pub runs : Runs request_lines founding.rules (founded founding) run
  pub sent : map (λ exchange. exchange.sent) run ≡ map (λ bytes. line bytes page_length) lines
  pub prints : Appends output output_after (flat_map (λ exchange. printed exchange.back) run)
  pub law : Law request_lines (at_founding founding) run
