-- The words of a line, and its fields.
use Rattle.std.specs.Prelude.{ℕ, ◌+◌, Bool, true, false, cond, not, List, [], ◌∷◌, length, find, filter, Some, None, Option, unwrap_or, ◌==◌, nat_lt}
use Rattle.std.specs.List.{slice_split}
use Rattle.std.specs.Option.{option_map, option_and_then}
use Rattle.oid.specs.Arcs.{is_arc}
use Rattle.dotted.specs.Pieces.{numeral}
use Rattle.book.specs.Ranges.{is_holder, is_quota}
use Rattle.request.specs.Verbs.{Sort, a_holder, an_identifier, an_arc, a_quota}

abbrev pub space : ℕ
space = 32

abbrev pub is_space : ℕ → Bool
is_space byte = byte == space

-- the words of a line: what stands before, between and behind its spaces
abbrev pub words : List ℕ → List (List ℕ)
words line = slice_split is_space line

-- a part of a line, and where it begins
pub record Part : Type 0 where
  pub offset : ℕ
  pub text : List ℕ

-- words of which the first begins at an offset, with one space between them
unfoldable pub parts_from : ℕ → List (List ℕ) → List Part
parts_from offset [] = []
parts_from offset (word ∷ words) = record { offset = offset; text = word } ∷ parts_from (offset + length word + 1) words

-- the parts of a line that its spaces leave: the verb, and the fields
abbrev pub parts_of : List ℕ → List Part
parts_of line = parts_from 0 (words line)

-- a part of a line that stands for something
pub record Field : Type 0 where
  pub sort : Sort
  pub part : Part

-- Parts as the fields of a form: as many, and none of them empty, so that there is one space between them and none at the ends.
unfoldable pub in_form : List Sort → List Part → Option (List Field)
in_form [] [] = Some []
in_form [] (part ∷ parts) = None
in_form (sort ∷ form) [] = None
in_form (sort ∷ form) (part ∷ parts) =
    cond (nat_lt 0 (length part.text)) (option_map (λ fields. record { sort = sort; part = part } ∷ fields) (in_form form parts)) None

abbrev pub is_identifier_sort : Sort → Bool
is_identifier_sort an_identifier = true
is_identifier_sort sort = false

-- the number fields, in their order
abbrev pub number_fields : List Field → List Field
number_fields fields = filter (λ field. not (is_identifier_sort field.sort)) fields

-- the identifier's field: there is one in each form
abbrev pub identifier_part : List Field → Part
identifier_part fields =
    unwrap_or (option_map (λ field. field.part) (find (λ field. is_identifier_sort field.sort) fields)) (record { offset = 0; text = [] })

-- holders, arcs and quotas are numbers, each in its range
abbrev pub in_range : Sort → ℕ → Bool
in_range a_holder number = is_holder number
in_range an_arc number = is_arc number
in_range a_quota number = is_quota number
in_range an_identifier number = false

-- the number in a number field; none where it is not a number in its range
abbrev pub number_in : Field → Option ℕ
number_in field = option_and_then (λ number. cond (in_range field.sort number) (Some number) None) (numeral field.part.text)
