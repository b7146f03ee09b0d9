-- The answer to a line, by what was read.
use Rattle.std.proofs.Common.{◌≡◌, List, ◌++◌, ℕ, cond, codes, is_ok, Some, Ok, Err, Result, ap}
use Rattle.input.specs.Answers.{in_words}
use Rattle.request.specs.Reading.{read_line}
use Rattle.request.specs.Words.{fault_text}
use Rattle.request.specs.Requests.{reading_of}
use Rattle.request.specs.declared.refusal.Fault.{Fault}
use Rattle.readings.specs.Answers.{reading_in, printed, good_line, answer_to}
use Rattle.readings.specs.declared.found.Found.{Found}

pub read_good : (answer : Result Found Fault) (line : List ℕ) → reading_in answer ≡ read_line line → is_ok answer ≡ good_line line
read_good (Ok found) line is = ap is_ok is
read_good (Err fault) line is = ap is_ok is

pub read_says : (answer : Result Found Fault) (line : List ℕ) → reading_in answer ≡ read_line line
    → in_words (λ found. Some (printed (Ok (reading_of found.0)))) (λ fault. Some (fault_text fault)) answer ≡ Some (answer_to line)
read_says (Ok found) line is = ap (λ r. Some (cond (is_ok r) (codes "ok ") (codes "no ") ++ printed r)) is
read_says (Err fault) line is = ap (λ r. Some (cond (is_ok r) (codes "ok ") (codes "no ") ++ printed r)) is
