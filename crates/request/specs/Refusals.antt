-- Refusals of request lines: the number and the letter of each, and the faults that lines are answered with.
use Rattle.std.specs.Prelude.{ℕ, Bool, true, false, nat_le, Some, None, Ok, Err, Option, Result}
use Rattle.oid.specs.Refusals as oid
use Rattle.book.specs.Refusals as book
use Rattle.request.specs.declared.refusal.LineRefusal.{LineRefusal}
use Rattle.request.specs.declared.refusal.LineRefusal.TheVariants.{LineLength, UnknownVerb, WrongFields, NotANumber}
use Rattle.request.specs.declared.page.PageRefusal.{PageRefusal}
use Rattle.request.specs.declared.page.PageRefusal.TheVariants.{TooShort}
use Rattle.request.specs.declared.refusal.Refusal.{Refusal}
use Rattle.request.specs.declared.refusal.Refusal.TheVariants.{Line, Identifier, Book}
use Rattle.request.specs.declared.refusal.Fault.{Fault}

-- the number that the refusal of a page is told by
abbrev pub page_number : PageRefusal → ℕ
page_number TooShort = 9

-- the number that a refusal of a line's text is told by
abbrev pub line_number : LineRefusal → ℕ
line_number LineLength = 10
line_number UnknownVerb = 11
line_number WrongFields = 12
line_number NotANumber = 13

-- the number of any refusal of a line, for its text, for the text of its identifier, or by the book
abbrev pub number_of : Refusal → ℕ
number_of (Line refusal) = line_number refusal
number_of (Identifier refusal) = oid.number_of refusal
number_of (Book refusal) = book.number_of refusal

-- the letter that goes with it: L, C or R, as a byte
abbrev pub letter_of : Refusal → ℕ
letter_of (Line refusal) = 76
letter_of (Identifier refusal) = 67
letter_of (Book refusal) = 82

-- the refusals that the reading of a line can end in: of its text, or 1 to 5 of its identifier's
abbrev pub is_of_text : Refusal → Bool
is_of_text (Line refusal) = true
is_of_text (Identifier refusal) = nat_le (oid.number_of refusal) 5
is_of_text (Book refusal) = false

-- a refusal, with the offset in the line where it was found
abbrev pub fault_at : Refusal → ℕ → Fault
fault_at refusal offset = record { refusal = refusal; offset = offset }

-- a question: after a yes come the others, and a no ends with its fault
abbrev pub ask : {A : Type 0} → Fault → Bool → Result A Fault → Result A Fault
ask fault true others = others
ask fault false others = Err fault

-- a question whether there is something, which the others are then about
abbrev pub there_is : {A B : Type 0} → Fault → Option A → (A → Result B Fault) → Result B Fault
there_is fault None others = Err fault
there_is fault (Some thing) others = others thing

-- what was read is put to the others; a fault stays
abbrev pub and_then : {A B : Type 0} → Result A Fault → (A → Result B Fault) → Result B Fault
and_then (Ok found) others = others found
and_then (Err fault) others = Err fault
