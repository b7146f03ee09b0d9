-- The reading of dotted text: its questions, in order.
use Rattle.std.specs.Prelude.{ℕ, List, drop, Ok, Option, Result}
use Rattle.std.specs.Option.{option_map}
use Rattle.oid.specs.Numbers.{Number, read_numbers}
use Rattle.oid.specs.Refusals.{ask, and_then, fault_at}
use Rattle.oid.specs.declared.refusal.Fault.{Fault}
use Rattle.oid.specs.declared.refusal.Refusal.TheVariants.{NotDotted}
use Rattle.dotted.specs.Form.{faulty}
use Rattle.dotted.specs.Pieces.{numbers_from}
use Rattle.dotted.specs.Prefix.{prefix_length}

-- the fault of a text whose form is wrong
abbrev pub bad_form : ℕ → List ℕ → Option Fault
bad_form offset text = option_map (fault_at NotDotted) (faulty offset text)

-- 1. Is what follows the prefix made of digits and dots alone, one byte or more, with digits on both sides of
-- every dot? A no is told at the first byte that does not fit, or where the prefix ends if there is no byte. A
-- yes splits the text into its numbers.
abbrev pub split : ℕ → List ℕ → Result (List Number) Fault
split offset text = ask (bad_form offset text) (Ok (numbers_from offset text))

-- The reading of what stands behind a prefix of the given length: question 1, then the shared ones.
abbrev pub read_from : ℕ → List ℕ → Result (List ℕ) Fault
read_from offset text = and_then (split offset text) read_numbers

-- The arcs that a text stands for, or its first fault.
unfoldable pub read_dotted : List ℕ → Result (List ℕ) Fault
read_dotted text = read_from (prefix_length text) (drop (prefix_length text) text)
