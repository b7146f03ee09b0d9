use Rattle.std.proofs.Common.{[], sym, ap, ◌∙◌, arith}
use Rattle.std.proofs.lemmas.Bool.{cond-true, cond-false}
use Rattle.oid.specs.Meaning.{arcs_of}
use Rattle.book.specs.Book.{children}
use Rattle.register.specs.Kept.{entry_of}
use Rattle.book.specs.Left.{counted, used}
use Rattle.register.proofs.Kept.{book_more}
use Rattle.book.proofs.Shares.{used_is, used_more}
use Rattle.register.proofs.register.Register.used_below.Goals.{then-is_child, else-is_child}
use Rattle.register.proofs.register.Register.used_below.Goals as goal

pub loop-row-init : goal.loop-row-init
loop-row-init g c = record { sum = sym (used_is (arcs_of c.args.authority.now) []); bound = omega arith }

pub loop-row-preserved : goal.loop-row-preserved
loop-row-preserved g c =
    let authority = arcs_of c.args.authority.now in
    let row = entry_of c.row-item.result in
    let before = c.loop-row.invariant in
    let step =
    ap (λ book. used (children authority book)) (book_more _ c.loop-row.row-index c.row-item.result c.loop-row-test.true (sym c.row-item.is))
    ∙ used_more authority _ row in
    elim c.if-is_child.branch [
      | then-is_child w ↦
          let share = cond-true _ (counted row) 0 (sym c.is_child.ensures ∙ w.if-is_child.true) in
          let counted = w.counted-used.ensures in
          record { sum = omega (arith, w.used-is, before.sum, counted.value, share, step); bound = omega (arith, w.used-is, before.bound, counted.bound) }
      | else-is_child w ↦
          let share = cond-false _ (counted row) 0 (sym c.is_child.ensures ∙ w.if-is_child.false) in
          record { sum = omega (arith, w.used-is, before.sum, share, step); bound = omega (arith, w.used-is, before.bound) }
    ]
