-- Laws of the answers, over the definitions that the contracts cite.
use Rattle.std.specs.Prelude.{◌≡◌, ℕ, true, List, [], ◌++◌, length}
use Rattle.oid.specs.Tree.{is_identifier}
use Rattle.dotted.specs.Writing.{dotted_text}
use Rattle.der.specs.Writing.{der_bytes}
use Rattle.input.specs.Hex.{pairs_of}
use Rattle.sticker.specs.Answers.{sticker, chip, chip_word, on_line}

-- What is printed of an identifier, given back, is read as that identifier: its text as a sticker, and its encoding,
-- behind what a chip's line begins with, as a chip that has all bytes taken and none left.
abbrev pub GivenBack : Type 0
GivenBack =
    (arcs : List ℕ)
    → is_identifier arcs ≡ true
    → (on_line (dotted_text arcs) ≡ sticker arcs)
    × (on_line (chip_word ++ pairs_of [] (der_bytes arcs)) ≡ chip arcs (length (der_bytes arcs)) 0)
