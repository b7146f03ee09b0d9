-- Lines of which only the first bytes are kept.
use Rattle.std.proofs.Common.{◌≡◌, ℕ, ◌+◌, ◌<◌, min, cond, leb, List, length, take, Some, None, Err, Option, refl, sym, ap, ◌∙◌, ⊎_elim, arith}
use Rattle.std.specs.Option.{option_map, option_and_then}
use Rattle.std.specs.Result.{result_ok}
use Rattle.std.proofs.lemmas.Bool.{and_right, lt-leb, cases_lt}
use Rattle.std.proofs.lemmas.List.{length-take, take_all}
use Rattle.book.specs.Book.{Book}
use Rattle.book.specs.Calls.{Call}
use Rattle.book.specs.Questions.{Rules, answer}
use Rattle.book.specs.Rulings.{refused, named, listed, collected}
use Rattle.book.specs.Runs.{line, Back, too_short, written, Serves, LineAnswer, unread, by_call, line_answer, after_made}
use Rattle.input.specs.Limits.{line_limit}
use Rattle.request.specs.Answers.{answer_bytes, fault_line, no_line, offset_in}
use Rattle.request.specs.Limits.{least_line, most_line, has_room}
use Rattle.request.specs.Reading.{read_line, call_of}
use Rattle.request.specs.Refusals.{fault_at}
use Rattle.request.specs.RequestLines.{request_lines}
use Rattle.request.specs.declared.refusal.LineRefusal.TheVariants.{LineLength}
use Rattle.request.specs.declared.refusal.Refusal.TheVariants.{Line, Book as of_book}
use Rattle.request.proofs.Asking.{not_sized}

-- a line of more than 240 bytes is not read
too_long : (bytes : List ℕ) → most_line < length bytes → read_line bytes ≡ Err (fault_at (Line LineLength) 0)
too_long bytes long = not_sized bytes (and_right (leb least_line (length bytes)) _ (lt-leb (length bytes) most_line long))

module _ (kept bytes : List ℕ) (is : kept ≡ take (line_limit + 1) bytes) where
  count : length kept ≡ min (line_limit + 1) (length bytes)
  count = ap length is ∙ length-take (line_limit + 1) bytes

  -- they are read as all bytes are
  read_kept : read_line kept ≡ read_line bytes
  read_kept = ⊎_elim
      (λ long. too_long kept (omega (arith, count)) ∙ sym (too_long bytes (omega (arith, count, long))))
      (λ short. ap read_line (is ∙ take_all (line_limit + 1) bytes (omega (arith, short))))
      (cases_lt line_limit (length bytes))

  calls_kept : call_of kept ≡ call_of bytes
  calls_kept = ap (λ reading. option_and_then (λ reading. Some reading.call) (result_ok reading)) read_kept

  bytes_kept : (page_length : ℕ) (answer : LineAnswer) → answer_bytes kept page_length answer ≡ answer_bytes bytes page_length answer
  bytes_kept page_length unread = ap fault_line read_kept
  bytes_kept page_length (by_call (refused refusal)) = ap (λ reading. no_line (fault_at (of_book refusal) (offset_in reading))) read_kept
  bytes_kept page_length (by_call (named identifier)) = refl
  bytes_kept page_length (by_call (listed identifier children)) = refl
  bytes_kept page_length (by_call (collected holder quota)) = refl

  -- and served as all bytes are
  pub serves_kept : (rules : Rules) (before : Book) (page_length : ℕ) (back : Back) (after : Book)
      → Serves request_lines rules before (record { sent = line kept page_length; back = back; book = after })
      → Serves request_lines rules before (record { sent = line bytes page_length; back = back; book = after })
  serves_kept rules before page_length back after served =
      let told = λ (call : Option Call). line_answer (option_map (answer rules before) call) in
      record {
        answered = served.answered ∙ ap (λ b. cond (has_room page_length) (written b) too_short)
            (bytes_kept page_length (told (call_of kept)) ∙ ap (λ call. answer_bytes bytes page_length (told call)) calls_kept);
        leaves = served.leaves ∙ ap (λ call. after_made rules before (cond (has_room page_length) call None)) calls_kept;
      }
