-- Refusals: the number of each, and questions that are put one after the other.
use Rattle.std.specs.Prelude.{ℕ, List, Some, None, Ok, Err, Option, Result}
use Rattle.oid.specs.declared.refusal.Refusal.{Refusal}
use Rattle.oid.specs.declared.refusal.Refusal.TheVariants.{NotDotted, LeadingZero, ArcTooLarge, ArcCount, FirstArcs, Header, Unfinished, Padded, PageTooShort}
use Rattle.oid.specs.declared.refusal.Fault.{Fault}

-- the number that a refusal is told by
abbrev pub number_of : Refusal → ℕ
number_of NotDotted = 1
number_of LeadingZero = 2
number_of ArcTooLarge = 3
number_of ArcCount = 4
number_of FirstArcs = 5
number_of Header = 6
number_of Unfinished = 7
number_of Padded = 8
number_of PageTooShort = 25

-- a refusal as a fault, found at an offset
abbrev pub fault_at : Refusal → ℕ → Fault
fault_at refusal offset = record { refusal = refusal; offset = offset }

-- A question's answer is none for a yes, and a fault for a no. A no ends the reading with that fault,
-- and after a yes come the other questions.
abbrev pub ask : {A : Type 0} → Option Fault → Result A Fault → Result A Fault
ask None others = others
ask (Some fault) others = Err fault

-- What was found so far is put to further questions; a fault stays.
abbrev pub and_then : {A B : Type 0} → Result A Fault → (A → Result B Fault) → Result B Fault
and_then (Ok found) others = others found
and_then (Err fault) others = Err fault

-- What a reader that fills the caller's identifier answers of a reading.
abbrev pub answered : Result (List ℕ) Fault → Result (Unit {0}) Fault
answered (Ok arcs) = Ok tt
answered (Err fault) = Err fault

-- The same of a reader that tells how many bytes it took: so many, where arcs are read.
abbrev pub told : ℕ → Result (List ℕ) Fault → Result ℕ Fault
told count (Ok arcs) = Ok count
told count (Err fault) = Err fault

-- The arcs that the caller's identifier has after a reading, where it had `before`.
abbrev pub filled : Result (List ℕ) Fault → List ℕ → List ℕ
filled (Ok arcs) before = arcs
filled (Err fault) before = before
