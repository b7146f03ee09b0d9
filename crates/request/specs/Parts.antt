-- For contracts of private functions: what is left of a walk over the parts of a line, and what the code's parts and fields stand for.
use Rattle.std.specs.Prelude.{ℕ, ◌≡◌, cond, List, [], ◌∷◌, drop, length, nat_le, Option}
use Rattle.std.specs.Option.{option_map, option_and_then}
use Rattle.request.specs.Reading.{number_at_index}
use Rattle.request.specs.Verbs.{Sort, a_holder, an_identifier, an_arc, a_quota}
use Rattle.request.specs.Fields.{words, Part, parts_from, Field, in_form, number_fields, identifier_part}
use Rattle.request.specs.declared.part.Part as code
use Rattle.request.specs.declared.part.Parts.{Parts}
use Rattle.request.specs.declared.field.Field as code_field
use Rattle.request.specs.declared.fields.Fields.{Fields}
use Rattle.request.specs.declared.fields.More.{More}
use Rattle.request.specs.declared.fields.More.TheVariants.{Nothing, One, Two}
use Rattle.request.specs.declared.field.Field.TheVariants.{Holder, Identifier, Arc, Quota}

abbrev pub part_of : code.Part → Part
part_of part = record { offset = part.offset; text = part.text.now }

-- the parts that the walk has still before it; none where it has come past the line's end
abbrev pub parts_left : Parts → List Part
parts_left parts =
    cond (nat_le parts.place (length parts.line.now)) (parts_from parts.place (words (drop parts.place parts.line.now))) []

abbrev pub field_of : code_field.Field → Field
field_of (Holder part) = record { sort = a_holder; part = part_of part }
field_of (Identifier part) = record { sort = an_identifier; part = part_of part }
field_of (Arc part) = record { sort = an_arc; part = part_of part }
field_of (Quota part) = record { sort = a_quota; part = part_of part }

-- What was found is the next field of every form, whatever fields come behind it; or, where nothing was found, no form has a next field.
abbrev pub FillsNext : List Part → Option Part → List Part → Type 0
FillsNext before found after =
    (sort : Sort) (form : List Sort)
    → in_form (sort ∷ form) before
    ≡ option_and_then (λ part. option_map (λ fields. record { sort = sort; part = part } ∷ fields) (in_form form after)) found

-- the number fields of a line, in their order, and the part that its identifier's field is
abbrev pub split : List Field → List Field × Part
split fields = (number_fields fields, identifier_part fields)

abbrev pub more_of : More → List Field
more_of Nothing = []
more_of (One field) = field_of field ∷ []
more_of (Two field last) = field_of field ∷ field_of last ∷ []

abbrev pub number_fields_of : Fields → List Field
number_fields_of fields = field_of fields.caller ∷ more_of fields.more

abbrev pub split_of : Fields → List Field × Part
split_of fields = (number_fields_of fields, (field_of fields.identifier).part)

-- the first two numbers, and the first three, with 0 for those that are not there
abbrev pub two : List ℕ → ℕ × ℕ
two numbers = (number_at_index numbers 0, number_at_index numbers 1)

abbrev pub three : List ℕ → List ℕ
three numbers = number_at_index numbers 0 ∷ number_at_index numbers 1 ∷ number_at_index numbers 2 ∷ []
