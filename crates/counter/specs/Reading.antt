-- The reading of a counter call: its questions, in order.
use Rattle.std.specs.Prelude.{ℕ, ◌+◌, Bool, cond, List, [], ◌∷◌, codes, nat_le, Some, None, Ok, Err, Result}
use Rattle.std.specs.Option.{option_and_then, ok_or}
use Rattle.std.specs.Result.{result_map_both}
use Rattle.oid.specs.Refusals.{fault_at}
use Rattle.oid.specs.Tree.{begins_with}
use Rattle.dotted.specs.Pieces.{numeral}
use Rattle.dotted.specs.Reading.{read_dotted}
use Rattle.request.specs.Fields.{Part, parts_of}
use Rattle.counter.specs.Calls.{Call, collect, accept, decline, terms, left, tells}
use Rattle.counter.specs.Names.{name_of}
use Rattle.counter.specs.declared.name.Name.{Name}
use Rattle.counter.specs.declared.name.Name.TheVariants.{Collect, Accept, Decline, Terms, Left, Tells}
use Rattle.counter.specs.declared.no_call.NoCall.{NoCall}
use Rattle.counter.specs.declared.no_call.NoCall.TheVariants.{UnknownName, WrongFields, NotANumber, NotAnIdentifier}

-- a line is for the counter if it begins with @
abbrev pub is_counter : List ℕ → Bool
is_counter line = begins_with line (codes "@")

-- what was read is put to the others; what is wrong stays
abbrev pub and_then : {A B : Type 0} → Result A NoCall → (A → Result B NoCall) → Result B NoCall
and_then (Ok found) others = others found
and_then (Err no_call) others = Err no_call

-- 1. Are the bytes before any space a name?
abbrev pub name_in : Part → Result Name NoCall
name_in word = ok_or (name_of word.text) UnknownName

-- 2. Are the fields, which spaces leave behind the name, as many as the call takes: none, one or two?
abbrev pub alone : List Part → Result Call NoCall
alone [] = Ok tells
alone fields = Err (WrongFields Tells)

abbrev pub one_field : Name → List Part → Result Part NoCall
one_field name (field ∷ []) = Ok field
one_field name fields = Err (WrongFields name)

abbrev pub two_fields : List Part → Result (Part × Part) NoCall
two_fields (number ∷ entry ∷ []) = Ok (number, entry)
two_fields fields = Err (WrongFields Collect)

-- 3. Is the taker's field a number of 32 bits, without a needless 0 in front?
abbrev pub most_number : ℕ
most_number = 4294967295

abbrev pub number_in : Part → Result ℕ NoCall
number_in field =
    ok_or (option_and_then (λ number. cond (nat_le number most_number) (Some number) None) (numeral field.text)) (NotANumber field.offset)

-- 4. Is the entry's field an identifier, with the prefix or without? A fault of its text is further on by where the field begins. An empty
-- field is none, as it is no number.
abbrev pub identifier_in : Part → Result (List ℕ) NoCall
identifier_in field =
    result_map_both (λ arcs. arcs) (λ fault. NotAnIdentifier (fault_at fault.refusal (field.offset + fault.offset))) (read_dotted field.text)

-- the entry of a call that takes nothing else
abbrev pub entry_in : Name → List Part → Result (List ℕ) NoCall
entry_in name fields = and_then (one_field name fields) identifier_in

abbrev pub collect_in : List Part → Result Call NoCall
collect_in fields =
    and_then (two_fields fields) (λ both.
    and_then (number_in both.0) (λ taker.
    and_then (identifier_in both.1) (λ entry. Ok (collect taker entry))))

-- the call that a name makes with its fields
abbrev pub call_by : Name → List Part → Result Call NoCall
call_by Collect fields = collect_in fields
call_by Accept fields = and_then (entry_in Accept fields) (λ entry. Ok (accept entry))
call_by Decline fields = and_then (entry_in Decline fields) (λ entry. Ok (decline entry))
call_by Terms fields = and_then (entry_in Terms fields) (λ entry. Ok (terms entry))
call_by Left fields = and_then (entry_in Left fields) (λ entry. Ok (left entry))
call_by Tells fields = alone fields

-- the call that the parts of a line make, or what is wrong first; each line has a first part
abbrev pub call_in : List Part → Result Call NoCall
call_in [] = Err UnknownName
call_in (word ∷ fields) = and_then (name_in word) (λ name. call_by name fields)

abbrev pub read_call : List ℕ → Result Call NoCall
read_call line = call_in (parts_of line)
