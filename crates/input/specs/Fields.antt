-- Fields of a line, with one space between them.
use Rattle.std.specs.Prelude.{ℕ, Bool, List, ◌==◌}
use Rattle.std.specs.List.{before_first, after_first}

-- the byte between fields
abbrev pub is_space : ℕ → Bool
is_space byte = byte == 32

-- the bytes before the first space, or all
abbrev pub first_field : List ℕ → List ℕ
first_field bytes = before_first is_space bytes

-- what stands behind that space; nothing where there is none
abbrev pub after_field : List ℕ → List ℕ
after_field bytes = after_first is_space bytes
