-- What a roll is, by what is true of it.
use Rattle.std.specs.Prelude.{ℕ, ◌+◌, ◌≡◌, ◌<◌, ◌≤◌, List, ◌++◌, length, take, slice_get, Some}
use Rattle.std.specs.List.{flat_map}
use Rattle.std.specs.Option.{option_map}
use Rattle.request.specs.Limits.{least_rest}
use Rattle.request.specs.Answers.{child_line, last_line, roll_lines}
use Rattle.request.specs.declared.child.Child.{Child}

-- the lines of some children, one after the other
abbrev pub child_lines : List Child → List ℕ
child_lines children = flat_map child_line children

-- The lines of a roll are those of its first children, and the line that ends it. 16 bytes of the page remain after the last of the children's
-- lines, and so after each; they would not after the line of the next child, if there is one, and then its arc stands in the last line.
pub record IsRoll (page_length written : ℕ) (children : List Child) (bytes : List ℕ) : Type 0 where
  pub count : ℕ
  pub among : count ≤ length children
  pub its_lines : bytes ≡ child_lines (take count children) ++ last_line (option_map (λ child. child.arc) (slice_get children count))
  pub room : 0 < count → written + length (child_lines (take count children)) + least_rest ≤ page_length
  pub no_more : (child : Child) → slice_get children count ≡ Some child
      → page_length < written + length (child_lines (take count children)) + length (child_line child) + least_rest

-- A roll's lines are so, of every page, whatever is written before them.
abbrev pub RollsAreLines : Type 0
RollsAreLines = (page_length written : ℕ) (children : List Child) → IsRoll page_length written children (roll_lines page_length written children)
