use Rattle.std.proofs.Common.{◌≡◌, ◌≤◌, ◌*◌, ◌^◌, take}
use Rattle.oid.specs.Meaning.{arcs_of}
use Rattle.book.specs.Book.{children}
use Rattle.book.specs.Left.{used}
use Rattle.register.specs.Kept.{book_in}
use Rattle.register.proofs.register.Register.used_below.Given as goal

-- what the children among the first rows have used up, and that it cannot be too much
abbrev pub invariant-loop-row : goal.invariant-loop-row
invariant-loop-row g l = record {
  sum : l.used ≡ used (children (arcs_of l.authority) (book_in (take l.row-index l.row-items)));
  bound : l.used ≤ l.row-index * 2 ^ 32;
}
