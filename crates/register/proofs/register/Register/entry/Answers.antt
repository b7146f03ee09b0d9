use Rattle.std.proofs.Common.{sym, ap, ◌∙◌}
use Rattle.std.specs.Option.{option_map}
use Rattle.oid.specs.Meaning.{arcs_of}
use Rattle.register.specs.Kept.{entry_of}
use Rattle.register.proofs.Kept.{found_in_table, not_in_table}
use Rattle.register.proofs.register.Register.entry.Goals as goal

pub returns-in_err-row : goal.returns-in_err-row
returns-in_err-row g c =
    ap (option_map entry_of) c.from_residual.ensures
    ∙ sym (not_in_table (arcs_of c.args.identifier.now) c.args.self.now.rows.items (sym c.row_at.ensures ∙ c.in_err-row.was))

pub returns : goal.returns
returns g c =
    sym (found_in_table (arcs_of c.args.identifier.now) c.args.self.now.rows.items c.in_ok-row.row c.index.result.now
    (sym c.row_at.ensures ∙ c.in_ok-row.was) (sym c.index.ensures))
