use Rattle.std.proofs.Common.{◌+◌, sym, ap, ◌∙◌, le-leb, arith}
use Rattle.oid.specs.Arcs.{next_arc}
use Rattle.oid.specs.Meaning.{arcs_of}
use Rattle.oid.proofs.Arcs.{limit_width}
use Rattle.request.specs.Answers.{child_line}
use Rattle.request.specs.Limits.{least_rest}
use Rattle.register.specs.Registers.{book_of}
use Rattle.register.specs.Yes.{shown}
use Rattle.register.proofs.Onward.{no_more, one_more, next_is, none_above}
use Rattle.register.proofs.RollLines.{rolled, none_left, child_put, child_not_put, line_rest}
use Rattle.register.proofs.register.Register.write_children.Goals as goal

pub loop-row-smaller : goal.loop-row-smaller
loop-row-smaller g c =
    let one = one_more c.args.self.now.rows.items (arcs_of c.args.authority.now) c.loop-row.asked c.child_from.result c.child_from.ensures c.in-Some.row c.in-Some.is in
    let next = next_is c.arc-in-loop-row.result c.in-Some-next_arc.next (sym c.next_arc.ensures ∙ c.in-Some-next_arc.is) in
    omega (arith, one.0, next, c.arc-in-loop-row.ensures)

pub loop-row-preserved : goal.loop-row-preserved
loop-row-preserved g c =
    let put = c.if-not-put_child.false in
    let one = one_more c.args.self.now.rows.items (arcs_of c.args.authority.now) c.loop-row.asked c.child_from.result c.child_from.ensures c.in-Some.row c.in-Some.is in
    let next = next_is c.arc-in-loop-row.result c.in-Some-next_arc.next (sym c.next_arc.ensures ∙ c.in-Some-next_arc.is) in
    let above = sym next.0 ∙ ap (λ arc. arc + 1) c.arc-in-loop-row.ensures in (
      ap (λ asked. rolled (shown (book_of c.args.self.now) (arcs_of c.args.authority.now) asked) c.put_child.new.self.length c.put_child.new.page) above
          ∙ child_put _ _ _ c.child.result one.1 c.child.ensures c.loop-row.written.length c.loop-row.page
          c.put_child.result c.put_child.new.self.length c.put_child.new.page c.put_child.ensures put
          ∙ c.loop-row.invariant.0,
      line_rest (child_line c.child.result) least_rest c.loop-row.written.length c.loop-row.page
          c.put_child.result c.put_child.new.self.length c.put_child.new.page c.put_child.ensures put,
      c.put_child.ensures.long ∙ c.loop-row.invariant.2,
    )

pub returns-in_default-clause-lines : goal.returns-in_default-clause-lines
returns-in_default-clause-lines g c =
    let none = no_more c.args.self.now.rows.items (arcs_of c.args.authority.now) c.loop-row.asked c.child_from.result c.child_from.ensures c.in_default.is in
    none_left _ c.loop-row.written.length c.loop-row.page none ∙ c.loop-row.invariant.0

pub returns-then-not-put_child-clause-lines : goal.returns-then-not-put_child-clause-lines
returns-then-not-put_child-clause-lines g c =
    let one = one_more c.args.self.now.rows.items (arcs_of c.args.authority.now) c.loop-row.asked c.child_from.result c.child_from.ensures c.in-Some.row c.in-Some.is in
    child_not_put _ _ _ c.child.result one.1 c.child.ensures c.loop-row.written.length c.loop-row.page
    c.put_child.result c.put_child.new.self.length c.put_child.new.page c.put_child.ensures c.arc.result c.arc.ensures c.if-not-put_child.true
    ∙ c.loop-row.invariant.0

pub returns-then-not-put_child-clause-arc : goal.returns-then-not-put_child-clause-arc
returns-then-not-put_child-clause-arc g c = le-leb _ _ (limit_width c.arc.result c.arc.type_inv)

pub returns-in_default-next_arc-clause-lines : goal.returns-in_default-next_arc-clause-lines
returns-in_default-next_arc-clause-lines g c =
    let rows = c.args.self.now.rows.items in
    let authority = arcs_of c.args.authority.now in
    let one = one_more rows authority c.loop-row.asked c.child_from.result c.child_from.ensures c.in-Some.row c.in-Some.is in
    let last = ap next_arc (sym c.arc-in-loop-row.ensures) ∙ sym c.next_arc.ensures ∙ c.in_default-next_arc.is in
    none_left _ c.put_child.new.self.length c.put_child.new.page (none_above rows authority _ last)
    ∙ child_put _ _ _ c.child.result one.1 c.child.ensures c.loop-row.written.length c.loop-row.page
    c.put_child.result c.put_child.new.self.length c.put_child.new.page c.put_child.ensures c.if-not-put_child.false
    ∙ c.loop-row.invariant.0
