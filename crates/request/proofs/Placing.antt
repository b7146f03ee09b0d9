-- The place of a line is the place of the request that it is read as.
use Rattle.std.proofs.Common.{◌≡◌, ℕ, List, Some, Ok, Err, Option, Result, refl, sym, ap, ◌∙◌}
use Rattle.std.specs.Option.{option_and_then}
use Rattle.std.specs.Result.{result_ok, result_map_both}
use Rattle.book.specs.Calls.{place_of}
use Rattle.request.specs.Reading.{Reading, place_of_line, read_line}
use Rattle.request.specs.Requests.{call_of_request, reading_of}
use Rattle.request.specs.declared.refusal.Fault.{Fault}
use Rattle.request.specs.declared.request.Reading as code

pub place_read : (line : List ℕ) (found : Result code.Reading Fault) → result_map_both reading_of (λ fault. fault) found ≡ read_line line
    → place_of_line line ≡ option_and_then (λ reading. place_of (call_of_request reading.request)) (result_ok found)
place_read line found is = ap placed (sym is) ∙ same found
  where
    placed : Result Reading Fault → Option (List ℕ)
    placed read = option_and_then place_of (option_and_then (λ reading. Some reading.call) (result_ok read))

    same : (r : Result code.Reading Fault)
        → placed (result_map_both reading_of (λ fault. fault) r) ≡ option_and_then (λ reading. place_of (call_of_request reading.request)) (result_ok r)
    same (Ok reading) = refl
    same (Err fault) = refl
