-- What a collector knows of the numbers that it was given.
use Rattle.std.specs.Prelude.{◌≡◌, ℕ, ◌-◌, ◌^◌, min, List, [], ◌∷◌, ◌++◌, map, length, take, Result}
use Rattle.std.specs.Option.{unwrap_or}
use Rattle.std.specs.Result.{result_map_both}
use Rattle.oid.specs.Arcs.{arc_of}
use Rattle.oid.specs.Meaning.{arcs_of}
use Rattle.oid.specs.Numbers.{Number, offsets, too_large, first_at, read_numbers}
use Rattle.oid.specs.Tree.{most_arcs, fewest_arcs}
use Rattle.oid.specs.declared.collector.Collector.{Collector}
use Rattle.oid.specs.declared.identifier.Identifier.{Identifier}
use Rattle.oid.specs.declared.numeral.Numeral.{Numeral}
use Rattle.oid.specs.declared.refusal.Fault.{Fault}

-- a number as the code holds it: its value as an arc, or none where it is too large
abbrev pub numeral_of : Number → Numeral
numeral_of number = record { offset = number.offset; arc = arc_of number.value; padded = number.padded }

-- the number's value as an arc, or 0 where it is too large
abbrev pub stored_arc : Number → ℕ
stored_arc number = unwrap_or (arc_of number.value) 0

-- the collector was given these numbers: it counts them, has the first 16 and where the first two begin, and knows where
-- the first fault of each kind is
pub record Collected (collector : Collector) (numbers : List Number) : Type 0 where
  pub count : collector.count ≡ min (length numbers) (2 ^ 64 - 1)
  pub arcs : take (length numbers) collector.arcs ≡ take most_arcs (map stored_arc numbers)
  pub starts : take (length numbers) collector.starts ≡ take fewest_arcs (offsets numbers)
  pub padded : collector.padded ≡ first_at (λ number. number.padded) numbers
  pub large : collector.large ≡ first_at too_large numbers

-- the collector was given one number more, whatever it was given before
abbrev pub Adds : Collector → Numeral → Collector → Type 0
Adds before numeral after =
    (numbers : List Number) (number : Number)
    → numeral ≡ numeral_of number → Collected before numbers → Collected after (numbers ++ number ∷ [])

-- the answer is the reading of the numbers that the collector was given
abbrev pub Finishes : Collector → Result Identifier Fault → Type 0
Finishes collector answer =
    (numbers : List Number) → Collected collector numbers → result_map_both arcs_of (λ fault. fault) answer ≡ read_numbers numbers
