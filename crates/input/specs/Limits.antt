-- Lines: how long one may be, and what ends it.
use Rattle.std.specs.Prelude.{ℕ, List, ◌++◌, codes, decimal}

-- a line of more bytes is not read
abbrev pub line_limit : ℕ
line_limit = 4096

-- what is printed of a longer one
abbrev pub too_long_text : List ℕ
too_long_text = codes "long " ++ (decimal line_limit ++ codes " the line has more bytes than that, and was not read")

-- the byte that ends a line
abbrev pub line_feed : ℕ
line_feed = 10
