use Rattle.std.proofs.Common.{sym, ap, ◌∙◌, arith}
use Rattle.std.proofs.lemmas.List.{take_all}
use Rattle.std.specs.Option.{option_map, option_copied}
use Rattle.oid.specs.Meaning.{arcs_of}
use Rattle.book.specs.Book.{children}
use Rattle.book.specs.Order.{next_child}
use Rattle.register.specs.Kept.{entry_of, book_in}
use Rattle.register.proofs.NextChild.{is_lower, first_none, no_child, too_low, not_lower, now_lowest}
use Rattle.register.proofs.Kept.{book_more}
use Rattle.register.proofs.register.Register.child_from.Goals.{then-arc-from+then-is_lower+then-is_child, else-arc-from, else-arc-from-via-then-arc-from+then-is_lower+else-is_child, else-arc-from-via-then-arc-from+else-is_lower, else-arc-from-via-else-arc-from}
use Rattle.register.proofs.register.Register.child_from.Goals as goal

pub loop-row-init : goal.loop-row-init
loop-row-init g c = sym (first_none c.args.from (arcs_of c.args.authority.now))

pub loop-row-preserved : goal.loop-row-preserved
loop-row-preserved g c =
    let authority = arcs_of c.args.authority.now in
    let row = entry_of c.row-item.result in
    let more = book_more _ c.loop-row.row-index c.row-item.result c.loop-row-test.true (sym c.row-item.is) in
    let lowest = option_map entry_of (option_copied c.loop-row.lowest) in
    let from = c.args.from in
    let onward = ap (λ book. next_child from (children authority book)) (sym more) in
    elim c.if-arc-from.branch [
      | then-arc-from+then-is_lower+then-is_child w ↦
          ap (λ found. option_map entry_of (option_copied found)) w.lowest-is
          ∙ now_lowest authority _ row from lowest c.loop-row.invariant (omega (arith, w.if-arc-from.true, c.arc-arc.ensures))
          (ap (λ arc. is_lower arc lowest) (sym c.arc-arc.ensures) ∙ sym w.if-is_lower.ensures)
          (sym w.if-is_child.ensures)
          ∙ onward
      | else-arc-from w ↦
          ap (λ found. option_map entry_of (option_copied found)) w.lowest-is
          ∙ elim w.else-arc-from.branch [
            | else-arc-from-via-then-arc-from+then-is_lower+else-is_child w' ↦
                no_child authority _ row from lowest c.loop-row.invariant (sym w'.if-is_child.ensures)
            | else-arc-from-via-then-arc-from+else-is_lower w' ↦
                not_lower authority _ row from lowest c.loop-row.invariant (omega (arith, w'.if-arc-from.true, c.arc-arc.ensures))
                (ap (λ arc. is_lower arc lowest) (sym c.arc-arc.ensures) ∙ sym w'.if-is_lower.ensures)
            | else-arc-from-via-else-arc-from w' ↦
                too_low authority _ row from lowest c.loop-row.invariant (omega (arith, w'.if-arc-from.false, c.arc-arc.ensures))
          ]
          ∙ onward
    ]

pub returns : goal.returns
returns g c =
    let rows = take_all c.loop-row.row-index c.deref-row-items.result.now c.loop-row-test.false ∙ c.deref-row-items.ensures.value in
    ap (option_map entry_of) c.copied.ensures ∙ c.loop-row.invariant
    ∙ ap (λ rows. next_child c.args.from (children (arcs_of c.args.authority.now) (book_in rows))) rows
