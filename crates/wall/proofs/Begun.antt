-- Lines served from a founding on.
use Rattle.std.proofs.Common.{◌≡◌, ℕ, List, [], map, Option, ap, ◌∙◌, subst}
use Rattle.std.specs.List.{flat_map}
use Rattle.std.specs.Io.KnownBytes.{Appends}
use Rattle.book.specs.Book.{Book}
use Rattle.book.specs.Questions.{Rules}
use Rattle.book.specs.Founding.{Founding}
use Rattle.book.specs.Law.{at_founding}
use Rattle.book.specs.Runs.{line}
use Rattle.runs.specs.Desks.{LedTo}
use Rattle.hall.specs.Served.{printed, LinesServed}
use Rattle.wall.specs.Answered.{Answered}

pub from_founding : (given told : Founding) → given ≡ told → (rules : Rules) (before after : Book) → LedTo (at_founding given) [] rules before
    → (lines : List (List ℕ)) (page_length length_told : ℕ) → page_length ≡ length_told
    → (output buffered output_after : Option (List ℕ)) → buffered ≡ output
    → LinesServed rules before lines page_length after buffered output_after → Answered told length_told lines output output_after
from_founding given told is rules before after led lines page_length length_told long output buffered output_after begun served =
    let onwards = served.law (at_founding given) [] led in
    subst (λ founding. Answered founding length_told lines output output_after) is (record {
      run = served.run;
      runs = onwards.led.runs;
      sent = served.sent ∙ ap (λ n. map (λ bytes. line bytes n) lines) long;
      prints = subst (λ known. Appends known output_after (flat_map (λ exchange. printed exchange.back) served.run)) begun served.prints;
      law = onwards.law;
    })
