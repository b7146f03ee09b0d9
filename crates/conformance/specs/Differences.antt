-- Where our readers and writers differ from what a line says.
use Rattle.std.specs.Prelude.{ℕ, Bool, false, cond, List, length, Some, None, Ok, Err, codes, Option, Result, ◌==◌, nat_le, if◌then◌else◌}
use Rattle.std.specs.Str.{bytes_eq}
use Rattle.oid.specs.Refusals.{number_of}
use Rattle.oid.specs.declared.refusal.Fault.{Fault}
use Rattle.oid.specs.declared.refusal.Refusal.{Refusal}
use Rattle.oid.specs.declared.refusal.Refusal.TheVariants.{ArcTooLarge, ArcCount, Header}
use Rattle.dotted.specs.Reading.{read_dotted}
use Rattle.dotted.specs.Writing.{dotted_text}
use Rattle.der.specs.Header.{taken_in}
use Rattle.der.specs.Reading.{read_der}
use Rattle.der.specs.Writing.{der_bytes}
use Rattle.input.specs.Fields.{first_field, after_field}
use Rattle.input.specs.Hex.{unpaired, pairs_in}
use Rattle.input.specs.Limits.{line_limit}
use Rattle.conformance.specs.declared.difference.Difference.{Difference}
use Rattle.conformance.specs.declared.difference.Difference.TheVariants.{Form, TextRead, BytesWritten, BytesRead, TextWritten}
use Rattle.conformance.specs.declared.mark.Mark.{Mark}
use Rattle.conformance.specs.declared.mark.Mark.TheVariants.{Equal, Large, Many, LargeLong, ManyLong}

-- the bytes are read whole as an identifier, and the text is written of it
abbrev pub by_bytes : Result (List ℕ) Fault → List ℕ → List ℕ → Option Difference
by_bytes (Err fault) text bytes = Some BytesRead
by_bytes (Ok arcs) text bytes =
    cond (taken_in bytes == length bytes) (cond (bytes_eq (dotted_text arcs) text) None (Some TextWritten)) (Some BytesRead)

-- the text is read as an identifier, and the bytes are written of it; then the other way round
abbrev pub by_text : Result (List ℕ) Fault → List ℕ → List ℕ → Option Difference
by_text (Err fault) text bytes = Some TextRead
by_text (Ok arcs) text bytes = cond (bytes_eq (der_bytes arcs) bytes) (by_bytes (read_der bytes) text bytes) (Some BytesWritten)

-- both are those of one identifier
abbrev pub from_equal : List ℕ → List ℕ → Option Difference
from_equal text bytes = by_text (read_dotted text) text bytes

-- the reading ended with that refusal
abbrev pub refused_by : Refusal → Result (List ℕ) Fault → Bool
refused_by refusal (Ok arcs) = false
refused_by refusal (Err fault) = number_of fault.refusal == number_of refusal

-- the text gets one refusal, the bytes the other
abbrev pub from_refused : Refusal → Refusal → List ℕ → List ℕ → Option Difference
from_refused of_text of_bytes text bytes =
    cond (refused_by of_text (read_dotted text)) (cond (refused_by of_bytes (read_der bytes)) None (Some BytesRead)) (Some TextRead)

-- what a mark says of a text and of bytes
abbrev pub from_mark : Mark → List ℕ → List ℕ → Option Difference
from_mark Equal text bytes = from_equal text bytes
from_mark Large text bytes = from_refused ArcTooLarge ArcTooLarge text bytes
from_mark Many text bytes = from_refused ArcCount ArcCount text bytes
from_mark LargeLong text bytes = from_refused ArcTooLarge Header text bytes
from_mark ManyLong text bytes = from_refused ArcCount Header text bytes

-- the mark that a word stands for
abbrev pub mark_of : List ℕ → Option Mark
mark_of word =
    if bytes_eq word (codes "equal") then Some Equal
    else if bytes_eq word (codes "large") then Some Large
    else if bytes_eq word (codes "many") then Some Many
    else if bytes_eq word (codes "large-long") then Some LargeLong
    else if bytes_eq word (codes "many-long") then Some ManyLong
    else None

-- the text is the first field behind the mark, the bytes are the pairs of digits behind that
abbrev pub by_pairs : Option ℕ → Mark → List ℕ → List ℕ → Option Difference
by_pairs (Some offset) mark text digits = Some Form
by_pairs None mark text digits = from_mark mark text (pairs_in digits)

abbrev pub by_mark : Option Mark → List ℕ → Option Difference
by_mark None rest = Some Form
by_mark (Some mark) rest = by_pairs (unpaired (after_field rest)) mark (first_field rest) (after_field rest)

-- the difference from a line: a mark, a text and pairs of digits, with one space between
abbrev pub from_line : List ℕ → Option Difference
from_line line = cond (nat_le (length line) line_limit) (by_mark (mark_of (first_field line)) (after_field line)) (Some Form)
