use Rattle.std.proofs.Common.{sym, ap, ◌∙◌}
use Rattle.std.proofs.lemmas.Bool.{eq-eqb, ne_eqb}
use Rattle.book.specs.declared.refusal.Refusal.TheVariants.{NotInBook, WrongKind, NotHolder}
use Rattle.register.specs.Kept.{entry_of}
use Rattle.std.specs.Option.{option_map}
use Rattle.register.proofs.Asking.{asked_yes, asked_no, something, nothing, never_refused}
use Rattle.register.proofs.register.Register.as_holder.Goals as goal

pub returns-in_default-clause-asks : goal.returns-in_default-clause-asks
returns-in_default-clause-asks g c others = nothing NotInBook _ _ (sym c.entry.ensures ∙ ap (option_map entry_of) c.in_default.is)

pub returns-then-not-is_open-clause-asks : goal.returns-then-not-is_open-clause-asks
returns-then-not-is_open-clause-asks g c others =
    something NotInBook _ _ _ (sym c.entry.ensures ∙ ap (option_map entry_of) c.in-Some.is) ∙ asked_no WrongKind _ _ (sym c.if-not-is_open.ensures)

pub returns-then-holder-row-clause-asks : goal.returns-then-holder-row-clause-asks
returns-then-holder-row-clause-asks g c others =
    something NotInBook _ _ _ (sym c.entry.ensures ∙ ap (option_map entry_of) c.in-Some.is) ∙ asked_yes WrongKind _ _ (sym c.if-not-is_open.ensures)
    ∙ asked_no NotHolder _ _ (ne_eqb _ _ c.if-holder-row.true)

pub returns-clause-asks : goal.returns-clause-asks
returns-clause-asks g c others =
    something NotInBook _ _ _ (sym c.entry.ensures ∙ ap (option_map entry_of) c.in-Some.is) ∙ asked_yes WrongKind _ _ (sym c.if-not-is_open.ensures)
    ∙ asked_yes NotHolder _ _ (eq-eqb _ _ c.if-holder-row.false)

pub returns-clause-founded : goal.returns-clause-founded
returns-clause-founded g c = never_refused _ _ _ _ (c.args.self.now.emptied) (sym c.entry.ensures ∙ ap (option_map entry_of) c.in-Some.is)
