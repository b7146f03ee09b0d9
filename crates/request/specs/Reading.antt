-- The reading of a request line: its questions, in order.
use Rattle.std.specs.Prelude.{ℕ, ◌+◌, List, [], ◌∷◌, drop, Some, Ok, Option, Result}
use Rattle.std.specs.List.{slice_index_or, before_first}
use Rattle.std.specs.Option.{option_and_then}
use Rattle.std.specs.Result.{result_ok, result_map_both}
use Rattle.oid.specs.declared.refusal.Fault as oid
use Rattle.dotted.specs.Reading.{read_dotted}
use Rattle.book.specs.Calls.{Call, grant, claim, offer, accept, decline, retire, roll, place_of}
use Rattle.request.specs.Limits.{is_line}
use Rattle.request.specs.Refusals.{fault_at, ask, there_is, and_then}
use Rattle.request.specs.Verbs.{verb_of, form_of}
use Rattle.request.specs.Fields.{is_space, Part, parts_of, Field, in_form, number_fields, identifier_part, number_in}
use Rattle.request.specs.declared.verb.Verb.{Verb}
use Rattle.request.specs.declared.verb.Verb.TheVariants.{Grant, Claim, Offer, Accept, Decline, Retire, Roll}
use Rattle.request.specs.declared.refusal.Fault.{Fault}
use Rattle.request.specs.declared.refusal.LineRefusal.TheVariants.{LineLength, UnknownVerb, WrongFields, NotANumber}
use Rattle.request.specs.declared.refusal.Refusal.TheVariants.{Line, Identifier}

-- What a line reads to: the call that it makes, and where its identifier begins.
pub record Reading : Type 0 where
  pub call : Call
  pub offset : ℕ

-- the number at an index among those that a line has, 0 where there is none
abbrev pub number_at_index : List ℕ → ℕ → ℕ
number_at_index numbers index = slice_index_or numbers index 0

-- The call that a verb makes, of the numbers in its number fields, in their order, and of its identifier.
abbrev pub call_by : Verb → List ℕ → List ℕ → Call
call_by Grant numbers o = grant (number_at_index numbers 0) o
call_by Claim numbers o = claim (number_at_index numbers 0) o (number_at_index numbers 1)
call_by Offer numbers o = offer (number_at_index numbers 0) o (number_at_index numbers 1) (number_at_index numbers 2)
call_by Accept numbers t = accept (number_at_index numbers 0) t
call_by Decline numbers t = decline (number_at_index numbers 0) t
call_by Retire numbers t = retire (number_at_index numbers 0) t
call_by Roll numbers o = roll (number_at_index numbers 0) o (number_at_index numbers 1)

-- 11. Are the bytes before any space one of the seven verbs?
abbrev pub verb_in : List ℕ → Option Verb
verb_in line = verb_of (before_first is_space line)

-- 12. Are its fields as many as the verb's, with one space between and none at the ends?
abbrev pub fields_in : Verb → List ℕ → Option (List Field)
fields_in verb line = in_form (form_of verb) (drop 1 (parts_of line))

-- 13. Is each number field a number in its range? A no is told at the first that is not.
abbrev pub number_at : Field → Result ℕ Fault
number_at field = there_is (fault_at (Line NotANumber) field.part.offset) (number_in field) (λ number. Ok number)

abbrev pub numbers_in : List Field → Result (List ℕ) Fault
numbers_in [] = Ok []
numbers_in (field ∷ fields) =
    and_then (number_at field) (λ number.
    and_then (numbers_in fields) (λ numbers. Ok (number ∷ numbers)))

-- 1 to 5, put to the identifier's field. A fault of its text is further on by where it begins.
abbrev pub fault_in : Part → oid.Fault → Fault
fault_in part fault = fault_at (Identifier fault.refusal) (part.offset + fault.offset)

abbrev pub identifier_in : Part → Result (List ℕ) Fault
identifier_in part = result_map_both (λ arcs. arcs) (fault_in part) (read_dotted part.text)

-- What a line reads to, or its first fault. 10. Is the line 1 to 240 bytes?
unfoldable pub read_line : List ℕ → Result Reading Fault
read_line line =
    ask (fault_at (Line LineLength) 0) (is_line line) (
    there_is (fault_at (Line UnknownVerb) 0) (verb_in line) (λ verb.
    there_is (fault_at (Line WrongFields) 0) (fields_in verb line) (λ fields.
    and_then (numbers_in (number_fields fields)) (λ numbers.
    and_then (identifier_in (identifier_part fields)) (λ identifier.
    Ok (record { call = call_by verb numbers identifier; offset = (identifier_part fields).offset }))))))

-- the call that a line makes; none where it cannot be read
abbrev pub call_of : List ℕ → Option Call
call_of line = option_and_then (λ reading. Some reading.call) (result_ok (read_line line))

-- A line's place is the place of its call. It has none where it cannot be read, and its page does not matter.
abbrev pub place_of_line : List ℕ → Option (List ℕ)
place_of_line line = option_and_then place_of (call_of line)
