-- The calls that lines make.
use Rattle.std.proofs.Common.{◌≡◌, ℕ, Bool, true, cond, List, length, take, drop, Ok, Err, Result, sym, ap, ◌∙◌}
use Rattle.std.proofs.lemmas.Bool.{cond-true}
use Rattle.std.proofs.Math.Seq.{take-append_seam, drop-append_seam}
use Rattle.oid.specs.Pages.{at_front}
use Rattle.oid.specs.declared.identifier.Identifier.{Identifier}
use Rattle.book.specs.Book.{Book}
use Rattle.book.specs.Questions.{Rules}
use Rattle.book.specs.Runs.{written, Serves, after_made}
use Rattle.request.specs.Answers.{first_line}
use Rattle.request.specs.Limits.{has_room}
use Rattle.request.specs.Reading.{call_of}
use Rattle.request.specs.RequestLines.{request_lines}
use Rattle.request.specs.declared.page.PageRefusal.{PageRefusal}
use Rattle.request.specs.declared.page.PageRefusal.TheVariants.{TooShort}
use Rattle.request.specs.declared.refusal.Fault.{Fault}
use Rattle.register.specs.Submitted.{bytes_to, back_of, line_exchange, OnPage}

-- what is written at the front of a page stands there, and the page stays behind it
pub on_front : (bytes page page_after : List ℕ) (stays : Bool) → page_after ≡ at_front bytes page → length page_after ≡ length page → OnPage bytes stays page page_after
on_front bytes page page_after stays is long =
    record {
      there = ap (take (length bytes)) is ∙ take-append_seam bytes (drop (length bytes) page);
      long = long;
      beyond = λ _. ap (drop (length bytes)) is ∙ drop-append_seam bytes (drop (length bytes) page);
    }

-- what is written for a line comes back, and the book after is that of its call
pub serves_line : (rules : Rules) (book : Book) (line : List ℕ) (page_length : ℕ) (result : Result ℕ PageRefusal) (page_after : List ℕ) (after : Book)
    → has_room page_length ≡ true → result ≡ Ok (length (bytes_to rules book line page_length))
    → take (length (bytes_to rules book line page_length)) page_after ≡ bytes_to rules book line page_length
    → after ≡ after_made rules book (call_of line)
    → Serves request_lines rules book (line_exchange line page_length result page_after after)
serves_line rules book line page_length result page_after after room is there leaves =
    record {
      answered = ap (λ result. back_of result page_after) is ∙ ap written there ∙ sym (cond-true (has_room page_length) _ _ room);
      leaves = leaves ∙ ap (after_made rules book) (sym (cond-true (has_room page_length) _ _ room));
    }

-- a first line alone, written at the front of a page
module _ (rules : Rules) (book : Book) (line page page_after : List ℕ) (answer : Result Identifier Fault) (result : Result ℕ PageRefusal)
    (room : has_room (length page) ≡ true) (bytes : first_line answer ≡ bytes_to rules book line (length page))
    (value : result ≡ cond (has_room (length page)) (Ok (length (first_line answer))) (Err TooShort))
    (front : page_after ≡ cond (has_room (length page)) (at_front (first_line answer) page) page) (long : length page_after ≡ length page) where
  pub first_on_page : (stays : Bool) → OnPage (bytes_to rules book line (length page)) stays page page_after
  first_on_page stays =
      on_front _ page page_after stays (front ∙ cond-true (has_room (length page)) _ _ room ∙ ap (λ bytes. at_front bytes page) bytes) long

  pub first_serves : (after : Book) → after ≡ after_made rules book (call_of line)
      → Serves request_lines rules book (line_exchange line (length page) result page_after after)
  first_serves after leaves =
      serves_line rules book line (length page) result page_after after room
      (value ∙ cond-true (has_room (length page)) _ _ room ∙ ap (λ bytes. Ok (length bytes)) bytes)
      (first_on_page true).there leaves
