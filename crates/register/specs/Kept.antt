-- What the register keeps: rows, and the book that they stand for.
use Rattle.std.specs.Prelude.{ℕ, Bool, ◌&&◌, List, map, ◌==◌}
use Rattle.oid.specs.Meaning.{arcs_of}
use Rattle.book.specs.Book.{Entry, Book, is_child, arc_of_child}
use Rattle.register.specs.declared.row.Row.{Row}

-- the entry that a row stands for
abbrev pub entry_of : Row → Entry
entry_of row = record { identifier = arcs_of row.identifier; kind = row.kind; holder = row.holder; quota = row.quota }

-- the book of some rows
abbrev pub book_in : List Row → Book
book_in rows = map entry_of rows

-- an entry is a child of the authority and has the arc
abbrev pub has_arc : List ℕ → ℕ → Entry → Bool
has_arc authority arc entry = (arc_of_child entry == arc) && is_child authority entry
