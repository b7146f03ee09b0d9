use Rattle.std.proofs.Common.{◌≡◌, ◌+◌, ◌-◌, ◌≤◌, length}
use Rattle.oid.specs.Arcs.{arc_limit}
use Rattle.oid.specs.Meaning.{arcs_of}
use Rattle.request.specs.Limits.{least_rest}
use Rattle.register.specs.Registers.{book_of}
use Rattle.register.specs.Yes.{shown}
use Rattle.register.proofs.RollLines.{rolled}
use Rattle.register.proofs.register.Register.write_children.Given as goal

-- with the lines of the children from the arc asked for, what is written is the whole; a last line fits behind it
abbrev pub invariant-loop-row : goal.invariant-loop-row
invariant-loop-row g l =
    (rolled (shown (book_of l.self) (arcs_of l.authority) l.asked) l.written.length l.page ≡ rolled (shown (book_of l.self) (arcs_of l.authority) l.from) l.initial.written.length l.initial.page) × (l.written.length + least_rest ≤ length l.page) × (length l.page ≡ length l.initial.page)

abbrev pub decreases-loop-row : goal.decreases-loop-row
decreases-loop-row g l = arc_limit + 1 - l.asked
