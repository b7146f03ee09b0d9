-- What the program makes of a line, and of all lines of its input.
use Rattle.std.specs.Prelude.{ℕ, ◌+◌, ◌-◌, Bool, true, false, cond, List, [], ◌++◌, length, drop, Some, None, Ok, Err, codes, decimal, Option, Result, nat_le}
use Rattle.oid.specs.Meaning.{arcs_of}
use Rattle.oid.specs.Tree.{begins_with}
use Rattle.oid.specs.Words.{fault_text}
use Rattle.oid.specs.declared.refusal.Fault.{Fault}
use Rattle.dotted.specs.Reading.{read_dotted}
use Rattle.dotted.specs.Writing.{dotted_text}
use Rattle.der.specs.Header.{taken_in}
use Rattle.der.specs.Reading.{read_der}
use Rattle.der.specs.Writing.{der_bytes}
use Rattle.codecs.specs.Printed.{described}
use Rattle.input.specs.Answers.{report}
use Rattle.input.specs.Hex.{unpaired, pairs_in, pairs_of}
use Rattle.input.specs.Limits.{line_limit, too_long_text}
use Rattle.sticker.specs.declared.trouble.Trouble.{Trouble}
use Rattle.sticker.specs.declared.trouble.Trouble.TheVariants.{Faulty, NotHex, Long}
use Rattle.sticker.specs.declared.found.Found.{Found}
use Rattle.sticker.specs.declared.found.Found.TheVariants.{Sticker, Chip}

-- The answers: a sticker with its arcs; a chip with its arcs, the bytes taken and those left; a fault; a byte at this
-- offset of the line that is no digit of a pair; a line that is too long.
pub data Answer : Type 0 where
  sticker : List ℕ → Answer
  chip : List ℕ → ℕ → ℕ → Answer
  faulty : Fault → Answer
  not_hex : ℕ → Answer
  too_long : Answer

-- what was found on a line, or the trouble with it, says
abbrev pub said : Result Found Trouble → Answer
said (Ok (Sticker identifier)) = sticker (arcs_of identifier)
said (Ok (Chip identifier taken left)) = chip (arcs_of identifier) taken left
said (Err (Faulty fault)) = faulty fault
said (Err (NotHex offset)) = not_hex offset
said (Err Long) = too_long

-- a sticker's text is read
abbrev pub by_text : Result (List ℕ) Fault → Answer
by_text (Ok arcs) = sticker arcs
by_text (Err fault) = faulty fault

abbrev pub on_text : List ℕ → Answer
on_text text = by_text (read_dotted text)

-- a chip's content is read
abbrev pub by_content : List ℕ → Result (List ℕ) Fault → Answer
by_content content (Ok arcs) = chip arcs (taken_in content) (length content - taken_in content)
by_content content (Err fault) = faulty fault

abbrev pub on_content : List ℕ → Answer
on_content content = by_content content (read_der content)

-- what a chip's line begins with
unfoldable pub chip_word : List ℕ
chip_word = codes "der "

-- behind that stand pairs of digits, which are the content
abbrev pub by_pairs : Option ℕ → List ℕ → Answer
by_pairs (Some offset) digits = not_hex (length chip_word + offset)
by_pairs None digits = on_content (pairs_in digits)

abbrev pub on_digits : List ℕ → Answer
on_digits digits = by_pairs (unpaired digits) digits

-- the answer to a line
abbrev pub on_line : List ℕ → Answer
on_line line =
    cond (nat_le (length line) line_limit) (cond (begins_with line chip_word) (on_digits (drop (length chip_word) line)) (on_text line)) too_long

-- whether it was read as an identifier
abbrev pub is_good : Answer → Bool
is_good (sticker arcs) = true
is_good (chip arcs count left) = true
is_good (faulty fault) = false
is_good (not_hex offset) = false
is_good too_long = false

-- whether a line is read as an identifier
abbrev pub good_line : List ℕ → Bool
good_line line = is_good (on_line line)

-- what is printed of an answer, behind `ok` or `no`
abbrev pub printed : Answer → List ℕ
printed (sticker arcs) = described arcs ++ (codes " der " ++ pairs_of [] (der_bytes arcs))
printed (chip arcs taken left) = dotted_text arcs ++ (codes " taken " ++ (decimal taken ++ (codes " left " ++ decimal left)))
printed (faulty fault) = fault_text fault
printed (not_hex offset) = codes "hex " ++ (decimal offset ++ codes " the byte here is no hexadecimal digit of a pair")
printed too_long = too_long_text

-- the answer to a line, as it is written
abbrev pub answer_to : List ℕ → List ℕ
answer_to line = cond (good_line line) (codes "ok ") (codes "no ") ++ printed (on_line line)

-- all that is written of some lines: an answer to each, and the counts
abbrev pub output_of : List (List ℕ) → List ℕ
output_of lines = report good_line answer_to lines
