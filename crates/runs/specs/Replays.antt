-- A list of calls and what comes back of them.
use Rattle.std.specs.Prelude.{◌≡◌, List, map, length}
use Rattle.oid.specs.Meaning.{arcs_of}
use Rattle.book.specs.Book.{Book}
use Rattle.book.specs.Questions.{Rules}
use Rattle.book.specs.Founding.{Founding}
use Rattle.book.specs.Refusals.{number_of}
use Rattle.book.specs.Runs.{Sent, line, collects, accepts_grant, declines_grant, Back, too_short, written, handed, done, number, Exchange}
use Rattle.book.specs.Law.{Law, at_founding}
use Rattle.request.specs.RequestLines.{request_lines}
use Rattle.runs.specs.Desks.{LedTo}
use Rattle.runs.specs.declared.sent.Sent as code
use Rattle.runs.specs.declared.sent.Sent.TheVariants.{Line, Collect, Accept, Decline}
use Rattle.runs.specs.declared.sent.Said.{Said}
use Rattle.runs.specs.declared.sent.Said.TheVariants.{TooShort, Written, Handed, Done, Refused}

-- what is sent: a line with the length of its page
abbrev pub sent_by : code.Sent → Sent
sent_by (Line bytes page) = line bytes.items (length page.items)
sent_by (Collect taker entry) = collects taker (arcs_of entry)
sent_by (Accept entry) = accepts_grant (arcs_of entry)
sent_by (Decline entry) = declines_grant (arcs_of entry)

-- what comes back
abbrev pub back_by : Said → Back
back_by TooShort = too_short
back_by (Written bytes) = written bytes.items
back_by (Handed terms) = handed terms.holder terms.quota
back_by Done = done
back_by (Refused refusal) = number (number_of refusal)

-- a call made, what came back, and the book after
abbrev pub replayed : code.Sent → Said → Book → Exchange
replayed sent said after = record { sent = sent_by sent; back = back_by said; book = after }

-- From a founding a run with these calls and these answers led to the rules and the book; and the law holds of it.
pub record Replays (founding : Founding) (calls : List code.Sent) (said : List Said) (rules : Rules) (book : Book) : Type 0 where
  pub run : List Exchange
  pub led : LedTo (at_founding founding) run rules book
  pub sent : map (λ exchange. exchange.sent) run ≡ map sent_by calls
  pub back : map (λ exchange. exchange.back) run ≡ map back_by said
  pub law : Law request_lines (at_founding founding) run
