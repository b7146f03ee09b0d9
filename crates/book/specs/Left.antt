-- What an authority has left.
use Rattle.std.specs.Prelude.{ℕ, ◌+◌, ◌-◌, cond, List, sum_by, Some, None, Ok, Err, Option, Result}
use Rattle.book.specs.Kinds.{is_authority, holds_quota}
use Rattle.book.specs.Book.{Entry, Book, found, children}
use Rattle.book.specs.declared.refusal.Refusal.{Refusal}
use Rattle.book.specs.declared.refusal.Refusal.TheVariants.{NotInBook, WrongKind}

-- an entry counts 1, and its quota besides while it is offered, in hand or open
abbrev pub counted : Entry → ℕ
counted entry = 1 + cond (holds_quota entry.kind) entry.quota 0

-- what the entries directly below an authority have used up of its quota
unfoldable pub used : List Entry → ℕ
used children = sum_by counted children

-- The rest of the quota is left. It is counted anew each time; nothing in the book keeps it.
unfoldable pub left : Entry → Book → ℕ
left authority book = authority.quota - used (children authority.identifier book)

-- What the register tells of an identifier: what it has left; or that it does not stand in the book, or is no authority.
abbrev pub left_of : Option Entry → Book → Result ℕ Refusal
left_of None book = Err NotInBook
left_of (Some entry) book = cond (is_authority entry.kind) (Ok (left entry book)) (Err WrongKind)

abbrev pub told_left : List ℕ → Book → Result ℕ Refusal
told_left identifier book = left_of (found identifier book) book
