use Rattle.std.proofs.Common.{sym, arith}
use Rattle.register.proofs.Kept.{turned_in_table}
use Rattle.register.proofs.register.Register.turn.Goals as goal

pub returns-clause-book : goal.returns-clause-book
returns-clause-book g c =
    let rows = c.args.self.now.rows in
    turned_in_table rows.items c.args.row c.args.event c.index_mut-row.result.now c.turn.new.self
    (omega (arith, rows.ok.0, c.len.ensures, c.if-row-len.false)) (sym c.index_mut-row.ensures.value) c.turn.ensures.entry
