-- Contents split into subidentifiers, and the arcs that these stand for (X.690, 8.19.2 to 8.19.5).
use Rattle.std.specs.Prelude.{ℕ, ◌+◌, ◌-◌, ◌*◌, false, cond, List, [], ◌∷◌, map, ◌==◌, nat_lt, slice_index}
use Rattle.oid.specs.Numbers.{Number}
use Rattle.der.specs.Base128.{more, is_last, value_of}

-- the bytes of one subidentifier, and where they begin
pub record Series : Type 0 where
  pub offset : ℕ
  pub bytes : List ℕ

-- one byte more at the front of the first series
abbrev pub longer : ℕ → ℕ → List Series → List Series
longer offset byte [] = record { offset = offset; bytes = byte ∷ [] } ∷ []
longer offset byte (series ∷ others) = record { offset = offset; bytes = byte ∷ series.bytes } ∷ others

-- the series of contents that begin at `offset`: each ends with a last byte
unfoldable pub series_from : ℕ → List ℕ → List Series
series_from offset [] = []
series_from offset (byte ∷ rest) =
    cond (is_last byte) (record { offset = offset; bytes = byte ∷ [] } ∷ series_from (offset + 1) rest) (longer offset byte (series_from (offset + 1) rest))

-- a series as a number; it has a leading zero if its first byte is 80
abbrev pub number_in : Series → Number
number_in series = record { offset = series.offset; value = value_of series.bytes; padded = (slice_index series.bytes 0 == more) }

abbrev pub subidentifiers_from : ℕ → List ℕ → List Number
subidentifiers_from offset contents = map number_in (series_from offset contents)

-- how many second arcs are counted for each of the roots 0 and 1
abbrev pub per_root : ℕ
per_root = 40

-- the first two arcs as one subidentifier
abbrev pub joined_arcs : ℕ → ℕ → ℕ
joined_arcs first second = per_root * first + second

-- the root that a first subidentifier means: below 40 it is 0, from 40 to 79 it is 1, and from 80 it is 2
abbrev pub root_in : ℕ → ℕ
root_in value = cond (nat_lt value (joined_arcs 1 0)) 0 (cond (nat_lt value (joined_arcs 2 0)) 1 2)

-- and the second arc
abbrev pub second_in : ℕ → ℕ
second_in value = value - joined_arcs (root_in value) 0

-- the arcs that subidentifiers stand for: two for the first, one for each other
abbrev pub arcs_in : List ℕ → List ℕ
arcs_in [] = []
arcs_in (first ∷ others) = root_in first ∷ (second_in first ∷ others)

-- an arc as a number that begins where its subidentifier does
abbrev pub arc_number : ℕ → ℕ → Number
arc_number offset arc = record { offset = offset; value = arc; padded = false }

-- the arc of a subidentifier that is not the first
abbrev pub later_arc : Number → Number
later_arc number = arc_number number.offset number.value

-- the arcs that subidentifiers stand for, as numbers
abbrev pub arc_numbers : List Number → List Number
arc_numbers [] = []
arc_numbers (first ∷ others) =
    arc_number first.offset (root_in first.value) ∷ (arc_number first.offset (second_in first.value) ∷ map later_arc others)
