-- The limits of request lines and of pages.
use Rattle.std.specs.Prelude.{ℕ, Bool, ◌&&◌, List, length, nat_le}

-- the fewest bytes of a page that an answer is written on
abbrev pub least_page : ℕ
least_page = 256

-- 9. Has the page at least 256 bytes?
abbrev pub has_room : ℕ → Bool
has_room page_length = nat_le least_page page_length

-- the fewest and the most bytes of a line
abbrev pub least_line : ℕ
least_line = 1

abbrev pub most_line : ℕ
most_line = 240

-- 10. Is the line 1 to 240 bytes?
abbrev pub is_line : List ℕ → Bool
is_line line = nat_le least_line (length line) && nat_le (length line) most_line

-- the fewest bytes of a page that remain after each line that a roll writes of a child
abbrev pub least_rest : ℕ
least_rest = 16
