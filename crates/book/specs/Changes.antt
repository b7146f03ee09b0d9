-- How an event changes an entry of the book.
use Rattle.std.specs.Prelude.{ℕ, slice_get, slice_set, Some, None, Option, unwrap_or}
use Rattle.std.specs.Option.{option_map, option_and_then}
use Rattle.book.specs.Kinds.{next_kind}
use Rattle.book.specs.Book.{Entry, Book}
use Rattle.book.specs.declared.event.Event.{Event}

-- an entry with the kind that an event gives it; none where the event changes no entry of that kind
abbrev pub with_next : Event → Entry → Option Entry
with_next event entry = option_map (λ kind. record entry { kind = kind }) (next_kind entry.kind event)

-- an entry after an event: with its next kind, or as it was
abbrev pub turned_entry : Event → Entry → Entry
turned_entry event entry = unwrap_or (with_next event entry) entry

-- what an event makes of the entry in a row; none where there is no such row, or the event changes no entry of that kind
abbrev pub next_in : Book → ℕ → Event → Option Entry
next_in book row event = option_and_then (with_next event) (slice_get book row)

-- the book with another entry in a row, if there is one to be put there
abbrev pub with_entry : ℕ → Option Entry → Book → Book
with_entry row None book = book
with_entry row (Some entry) book = slice_set book row entry
