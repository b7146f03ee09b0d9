use Rattle.std.proofs.Common.{◌≡◌, take}
use Rattle.std.specs.Option.{option_map, option_copied}
use Rattle.oid.specs.Meaning.{arcs_of}
use Rattle.book.specs.Book.{children}
use Rattle.register.specs.Kept.{entry_of, book_in}
use Rattle.book.specs.Order.{next_child}
use Rattle.register.proofs.register.Register.child_from.Given as goal

-- it is the next among the first rows
abbrev pub invariant-loop-row : goal.invariant-loop-row
invariant-loop-row g l =
    option_map entry_of (option_copied l.lowest) ≡ next_child l.from (children (arcs_of l.authority) (book_in (take l.row-index l.row-items)))
