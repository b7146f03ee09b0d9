-- Lines: the bytes that one has taken, and how input is cut into them.
use Rattle.std.specs.Prelude.{◌≡◌, ℕ, ◌+◌, cond, List, [], ◌∷◌, ◌++◌, take, Option, IfSome, ◌==◌}
use Rattle.input.specs.Limits.{line_limit, line_feed}
use Rattle.input.specs.declared.line.Line.{Line}

-- the line has taken these bytes since it began: it keeps the first ones, up to one more than may be read
abbrev pub Took : Line → List ℕ → Type 0
Took line bytes = line ≡ take (line_limit + 1) bytes

-- the line that is under way after more input: what came since the last line feed
unfoldable pub underway : List ℕ → List ℕ → List ℕ
underway line [] = line
underway line (byte ∷ input) = cond (byte == line_feed) (underway [] input) (underway (line ++ byte ∷ []) input)

-- the lines that the input ends, the first of which was under way
unfoldable pub ended : List ℕ → List ℕ → List (List ℕ)
ended line [] = []
ended line (byte ∷ input) = cond (byte == line_feed) (line ∷ ended [] input) (ended (line ++ byte ∷ []) input)

-- the last line of input that has ended: what is under way, if that is anything
abbrev pub last_line : List ℕ → List (List ℕ)
last_line [] = []
last_line (byte ∷ rest) = (byte ∷ rest) ∷ []

-- all lines of some input: those that a line feed ends, and the last line
abbrev pub lines_in : List ℕ → List (List ℕ)
lines_in input = ended [] input ++ last_line (underway [] input)

-- these are the lines of a reader's remaining bytes, where those are known; of other readers they are any lines
abbrev pub LinesOf : Option (List ℕ) → List (List ℕ) → Type 0
LinesOf remaining lines = IfSome remaining (λ bytes. lines ≡ lines_in bytes)
