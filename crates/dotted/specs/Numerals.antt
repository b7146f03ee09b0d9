-- What is left of a walk over the numbers of a text.
use Rattle.std.specs.Prelude.{ℕ, cond, List, [], map, length, drop, nat_le}
use Rattle.oid.specs.Collected.{numeral_of}
use Rattle.oid.specs.Numbers.{Number}
use Rattle.oid.specs.declared.numeral.Numeral.{Numeral}
use Rattle.dotted.specs.Pieces.{numbers_from}
use Rattle.dotted.specs.declared.pieces.Numerals.{Numerals}

-- the numbers of a text from a place on; none where the place lies past its end
abbrev pub numbers_left : ℕ → List ℕ → List Number
numbers_left place text = cond (nat_le place (length text)) (numbers_from place (drop place text)) []

-- the numbers that the walk has still before it, as the code holds them
abbrev pub numerals_left : Numerals → List Numeral
numerals_left numerals = map numeral_of (numbers_left numerals.place numerals.text.now)
