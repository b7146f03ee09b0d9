-- What is told of the Grants that are still out at the end.
use Rattle.std.specs.Prelude.{ℕ, cond, List, [], ◌++◌, ◌==◌, codes, decimal}

-- nothing, where there are none
abbrev pub left_told : ℕ → List ℕ
left_told count =
    cond (count == 0) []
    (cond (count == 1) (codes "1 Grant was still out, and is declined\n") (decimal count ++ codes " Grants were still out, and are declined\n"))
