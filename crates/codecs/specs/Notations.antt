-- What the writer of a notation needs.
use Rattle.std.specs.Prelude.{ℕ}
use Rattle.dotted.specs.Writing.{text_limit}

-- a page of this length has room for what any notation writes of an identifier
abbrev pub page_limit : ℕ
page_limit = text_limit
