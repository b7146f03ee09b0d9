-- No line makes a call of Grants.
use Rattle.std.proofs.Common.{◌≡◌, ℕ, Bool, true, false, cond, List, Some, None, Ok, Err, Result, refl}
use Rattle.std.specs.Option.{option_and_then}
use Rattle.std.specs.Result.{result_ok}
use Rattle.book.specs.Book.{Book}
use Rattle.book.specs.Calls.{Call, grant, claim, offer, accept, decline, retire, roll, collect, accept_grant, decline_grant}
use Rattle.book.specs.Questions.{Rules}
use Rattle.book.specs.Runs.{line, after_made, made_by}
use Rattle.request.specs.Limits.{has_room}
use Rattle.request.specs.Lines.{is_call}
use Rattle.request.specs.Reading.{Reading, read_line, call_of}
use Rattle.request.specs.RequestLines.{request_lines}
use Rattle.request.specs.declared.refusal.Fault.{Fault}
use Rattle.request.proofs.Asked.{reads_exactly}
use Rattle.runs.specs.Hands.{Held, Hands}
use Rattle.runs.proofs.Keeping.{others_keep}
use Rattle.runs.proofs.Ruled.{of_grants}

-- what a line can ask for has nothing to do with Grants
apart : (call : Call) → is_call call ≡ true → of_grants call ≡ false
apart (grant holder o) is = refl
apart (claim holder o arc) is = refl
apart (offer holder o quota taker) is = refl
apart (accept taker t) is = refl
apart (decline taker t) is = refl
apart (retire holder t) is = refl
apart (roll holder o from) is = refl
apart (collect taker t) is = absurd cc
apart (accept_grant t) is = absurd cc
apart (decline_grant t) is = absurd cc

pub line_keeps : (rules : Rules) (serial : ℕ) (book : Book) (held : List Held) (bytes : List ℕ) (page_length : ℕ) → Hands serial book held
    → Hands serial (after_made rules book (made_by request_lines (line bytes page_length))) held
line_keeps rules serial book held bytes page_length hands = by_page (has_room page_length)
  where
    by_reading : (reading : Result Reading Fault) → read_line bytes ≡ reading
        → Hands serial (after_made rules book (option_and_then (λ reading. Some reading.call) (result_ok reading))) held
    by_reading (Err fault) is = hands
    by_reading (Ok reading) is =
        others_keep rules serial book held reading.call (apart reading.call ((reads_exactly bytes (read_line bytes) refl reading).0 is).call) hands

    by_page : (room : Bool) → Hands serial (after_made rules book (cond room (call_of bytes) None)) held
    by_page true = by_reading (read_line bytes) refl
    by_page false = hands
