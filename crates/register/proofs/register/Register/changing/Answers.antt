use Rattle.std.proofs.Common.{sym, ◌∙◌}
use Rattle.oid.specs.Meaning.{arcs_of}
use Rattle.book.specs.declared.refusal.Refusal.TheVariants.{NotInBook, WrongKind}
use Rattle.register.proofs.Asking.{something, nothing}
use Rattle.register.proofs.Kept.{row_in_table, found_in_table, not_in_table}
use Rattle.register.proofs.Turns.{none_is}
use Rattle.register.proofs.register.Register.changing.Goals as goal

pub returns-in_default-clause-refuses : goal.returns-in_default-clause-refuses
returns-in_default-clause-refuses g c others =
    nothing NotInBook _ _ (not_in_table (arcs_of c.args.entry.now) c.args.self.now.rows.items (sym c.row_at.ensures ∙ c.in_default.is))

pub returns-then-not-turn-clause-refuses : goal.returns-then-not-turn-clause-refuses
returns-then-not-turn-clause-refuses g c others =
    let first = sym c.row_at.ensures ∙ c.in-Some.is in
    something NotInBook _ _ _ (found_in_table (arcs_of c.args.entry.now) c.args.self.now.rows.items c.in-Some.number c.index-row.result.now first (sym c.index-row.ensures))
    ∙ nothing WrongKind _ _ (none_is _ (sym c.turn.ensures.answer ∙ c.if-not-turn.true))

pub returns-clause-stands : goal.returns-clause-stands
returns-clause-stands g c =
    let first = sym c.row_at.ensures ∙ c.in-Some.is in
    record {
      first = first;
      row = row_in_table (arcs_of c.args.entry.now) c.args.self.now.rows.items c.in-Some.number c.index-row.result.now first (sym c.index-row.ensures);
      changes = sym c.turn.ensures.answer ∙ c.if-not-turn.false;
    }
