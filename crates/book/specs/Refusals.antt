-- Refusals of calls: the number of each.
use Rattle.std.specs.Prelude.{ℕ}
use Rattle.book.specs.declared.refusal.Refusal.{Refusal}
use Rattle.book.specs.declared.refusal.Refusal.TheVariants.{NotInBook, WrongKind, NotHolder, TooDeep, TooLittleLeft, NoArc, ArcTaken, BookFull, NotInHand}

-- the number that a refusal of a call is told by
abbrev pub number_of : Refusal → ℕ
number_of NotInBook = 14
number_of WrongKind = 15
number_of NotHolder = 16
number_of TooDeep = 17
number_of TooLittleLeft = 18
number_of NoArc = 19
number_of ArcTaken = 20
number_of BookFull = 21
number_of NotInHand = 22
