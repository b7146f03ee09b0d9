-- What the program makes of a line, and of all lines of its input.
use Rattle.std.specs.Prelude.{ℕ, Bool, cond, List, ◌++◌, codes, decimal, is_ok, Ok, Err, Result}
use Rattle.dotted.specs.Writing.{dotted_text}
use Rattle.std.specs.Result.{result_map_both}
use Rattle.input.specs.Answers.{report}
use Rattle.request.specs.Lines.{identifier_of, line_of}
use Rattle.request.specs.Reading.{Reading, read_line}
use Rattle.request.specs.Requests.{reading_of}
use Rattle.request.specs.Words.{fault_text}
use Rattle.request.specs.declared.refusal.Fault.{Fault}
use Rattle.readings.specs.declared.found.Found.{Found}

-- what was found on a line, or the fault, as its reading
abbrev pub reading_in : Result Found Fault → Result Reading Fault
reading_in found = result_map_both (λ one. reading_of one.0) (λ fault. fault) found

-- whether a line is read
abbrev pub good_line : List ℕ → Bool
good_line line = is_ok (read_line line)

-- What is printed behind `ok` or `no`: where the line's identifier begins, and its call as a line without the prefix; or the fault, with
-- what is wrong in words.
abbrev pub printed : Result Reading Fault → List ℕ
printed (Ok reading) = decimal reading.offset ++ (codes " " ++ line_of reading.call (dotted_text (identifier_of reading.call)))
printed (Err fault) = fault_text fault

-- the answer to a line, as it is written
abbrev pub answer_to : List ℕ → List ℕ
answer_to line = cond (good_line line) (codes "ok ") (codes "no ") ++ printed (read_line line)

-- all that is written of some lines: an answer to each, and the counts
abbrev pub output_of : List (List ℕ) → List ℕ
output_of lines = report good_line answer_to lines
