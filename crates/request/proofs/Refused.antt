-- Which refusals the reading of a line can end in.
use Rattle.std.proofs.Common.{◌≡◌, ℕ, Bool, true, false, List, [], ◌∷◌, Some, None, Ok, Err, IfErr, Option, Result, refl, sym, ap, subst}
use Rattle.std.specs.Result.{is_ok, result_map_both}
use Rattle.std.proofs.lemmas.Bool.{both_ways, le-leb}
use Rattle.oid.specs.Refusals as oid
use Rattle.oid.specs.declared.refusal.Fault as codec
use Rattle.dotted.specs.Reading.{read_dotted}
use Rattle.dotted.proofs.Within.{first_five}
use Rattle.request.specs.Limits.{is_line}
use Rattle.request.specs.Refusals.{is_of_text, fault_at, ask, there_is, and_then}
use Rattle.request.specs.Fields.{Part, Field, number_fields, identifier_part, number_in}
use Rattle.request.specs.Reading.{number_at, numbers_in, fault_in, identifier_in, verb_in, fields_in, call_by, read_line}
use Rattle.request.specs.Requests.{read_as}
use Rattle.request.specs.declared.refusal.Fault.{Fault}
use Rattle.request.specs.declared.refusal.LineRefusal.TheVariants.{LineLength, UnknownVerb, WrongFields, NotANumber}
use Rattle.request.specs.declared.refusal.Refusal.TheVariants.{Line}
use Rattle.request.specs.declared.request.Reading as code
use Rattle.request.proofs.Asking.{fault_or}

abbrev OfText : Fault → Type 0
OfText fault = is_of_text fault.refusal ≡ true

-- every fault that it ends in is such a one
abbrev Refused : {A : Type 0} → Result A Fault → Type 0
Refused reading = (fault : Fault) → reading ≡ Err fault → OfText fault

never : {A : Type 0} (found : A) → Refused (Ok found)
never found fault is = absurd (both_ways true (ap is_ok is) refl)

same_fault : {A : Type 0} (own : Fault) → OfText own → Refused {A = A} (Err own)
same_fault own h fault is = subst OfText (ap (fault_or own) is) h

asked : {A : Type 0} (own : Fault) (v : Bool) (others : Result A Fault) → OfText own → Refused others → Refused (ask own v others)
asked own true others h more = more
asked own false others h more = same_fault own h

sought : {A B : Type 0} (own : Fault) (found : Option A) (others : A → Result B Fault) → OfText own → ((a : A) → Refused (others a))
    → Refused (there_is own found others)
sought own None others h more = same_fault own h
sought own (Some a) others h more = more a

behind : {A B : Type 0} (found : Result A Fault) (others : A → Result B Fault) → Refused found → ((a : A) → Refused (others a))
    → Refused (and_then found others)
behind (Ok a) others h more = more a
behind (Err own) others h more = same_fault own (h own refl)

numbers_refused : (fields : List Field) → Refused (numbers_in fields)
numbers_refused [] = never []
numbers_refused (field ∷ fields) =
    behind (number_at field) _ (sought (fault_at (Line NotANumber) field.part.offset) (number_in field) _ refl never)
    (λ number. behind (numbers_in fields) _ (numbers_refused fields) (λ numbers. never (number ∷ numbers)))

identifier_refused : (part : Part) → Refused (identifier_in part)
identifier_refused part = go (read_dotted part.text) refl
  where
    go : (reading : Result (List ℕ) codec.Fault) → reading ≡ read_dotted part.text → Refused (result_map_both (λ arcs. arcs) (fault_in part) reading)
    go (Ok arcs) same = never arcs
    go (Err fault) same = same_fault (fault_in part fault) (le-leb (oid.number_of fault.refusal) 5 (first_five part.text fault (sym same)))

line_refused : (line : List ℕ) → Refused (read_line line)
unfolding read_line
line_refused line =
    asked (fault_at (Line LineLength) 0) (is_line line) _ refl
    (sought (fault_at (Line UnknownVerb) 0) (verb_in line) _ refl (λ verb.
    sought (fault_at (Line WrongFields) 0) (fields_in verb line) _ refl (λ fields.
    behind (numbers_in (number_fields fields)) _ (numbers_refused (number_fields fields)) (λ numbers.
    behind (identifier_in (identifier_part fields)) _ (identifier_refused (identifier_part fields)) (λ identifier.
    never (record { call = call_by verb numbers identifier; offset = (identifier_part fields).offset }))))))

-- and so of what a reader answers
pub answer_refused : (line : List ℕ) (answer : Result code.Reading Fault) → read_as answer ≡ read_line line
    → IfErr answer (λ fault. is_of_text fault.refusal ≡ true)
answer_refused line (Ok reading) value = tt
answer_refused line (Err fault) value = line_refused line fault (sym value)
