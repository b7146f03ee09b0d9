-- What the code's calls mean, and what comes back of them.
use Rattle.std.specs.Prelude.{ℕ, ◌≡◌, Bool, true, false, List, length, take}
use Rattle.oid.specs.Meaning.{arcs_of}
use Rattle.book.specs.Book.{Book}
use Rattle.book.specs.Questions.{Rules}
use Rattle.book.specs.Refusals.{number_of}
use Rattle.book.specs.Runs.{Sent, line, collects, accepts_grant, declines_grant, too_short, written, handed, done, number, answer_to, Exchange}
use Rattle.book.specs.Runs as book
use Rattle.request.specs.Limits.{has_room}
use Rattle.request.specs.RequestLines.{request_lines}
use Rattle.register.specs.Submitted.{bytes_to, keeps_beyond, OnPage}
use Rattle.runs.specs.declared.call.Call.{Call}
use Rattle.runs.specs.declared.call.Call.TheVariants.{Line, Collect, Accept, Decline}
use Rattle.runs.specs.declared.call.Back.{Back}
use Rattle.runs.specs.declared.call.Back.TheVariants.{TooShort, Written, Handed, Done, Refused}

-- what is sent with a page of some length; only a line's answer is written on it
abbrev pub sent_of : Call → ℕ → Sent
sent_of (Line bytes) page_length = line bytes.now page_length
sent_of (Collect taker entry) page_length = collects taker (arcs_of entry.now)
sent_of (Accept entry) page_length = accepts_grant (arcs_of entry.now)
sent_of (Decline entry) page_length = declines_grant (arcs_of entry.now)

-- what comes back, with the page as it was left
abbrev pub back_of : Back → List ℕ → book.Back
back_of TooShort page = too_short
back_of (Written length) page = written (take length page)
back_of (Handed terms) page = handed terms.holder terms.quota
back_of Done page = done
back_of (Refused refusal) page = number (number_of refusal)

-- a call made, with its page before and after, what came back, and the book after
abbrev pub exchange_of : Call → List ℕ → Back → List ℕ → Book → Exchange
exchange_of call page back page_after after = record { sent = sent_of call (length page); back = back_of back page_after; book = after }

-- What is told of a line and left of its page: on one that is long enough the answer's length, and the answer at its front; else that it is
-- too short, and nothing is written. The other calls write nothing.
abbrev pub PageAfter : Rules → Book → Call → List ℕ → Back → List ℕ → Type 0
PageAfter rules book (Line bytes) page back page_after =
    (has_room (length page) ≡ true → (back ≡ Written (length (bytes_to rules book bytes.now (length page))))
    × OnPage (bytes_to rules book bytes.now (length page)) (keeps_beyond (answer_to request_lines rules book bytes.now)) page page_after)
    × (has_room (length page) ≡ false → (back ≡ TooShort) × (page_after ≡ page))
PageAfter rules book call page back page_after = page_after ≡ page

-- For a private function: it is what comes back of a line.
abbrev pub is_of_line : Back → Bool
is_of_line TooShort = true
is_of_line (Written length) = true
is_of_line back = false
