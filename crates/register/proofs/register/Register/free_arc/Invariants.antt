use Rattle.std.proofs.Common.{◌≡◌, ℕ, ◌+◌, ◌-◌, ◌<◌, false}
use Rattle.oid.specs.Arcs.{arc_limit}
use Rattle.oid.specs.Meaning.{arcs_of}
use Rattle.book.specs.Book.{children}
use Rattle.book.specs.Free.{untaken}
use Rattle.register.specs.Registers.{book_of}
use Rattle.register.proofs.register.Register.free_arc.Given as goal

-- no arc below the one asked for is free
abbrev pub invariant-loop-arc : goal.invariant-loop-arc
invariant-loop-arc g l =
    (arc : ℕ) → arc < l.asked → untaken (g.R.ArcRule.means l.rule).set (children (arcs_of l.authority) (book_of l.self)) arc ≡ false

abbrev pub decreases-loop-arc : goal.decreases-loop-arc
decreases-loop-arc g l = arc_limit + 1 - l.asked
