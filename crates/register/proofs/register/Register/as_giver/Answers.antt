use Rattle.std.proofs.Common.{◌∙◌, arith}
use Rattle.std.proofs.lemmas.Bool.{lt-leb, le-leb}
use Rattle.book.specs.declared.refusal.Refusal.TheVariants.{TooDeep, TooLittleLeft}
use Rattle.register.proofs.Asking.{asked_yes, asked_no}
use Rattle.register.proofs.register.Register.as_giver.Goals as goal

pub returns-then-len-ge-MOST_ARCS-clause-asks : goal.returns-then-len-ge-MOST_ARCS-clause-asks
returns-then-len-ge-MOST_ARCS-clause-asks g c others = c.in_ok-row.ensures.asks _ ∙ asked_no TooDeep _ _ (lt-leb _ _ (omega (arith, c.len.ensures, c.if-len-ge-MOST_ARCS.true)))

pub returns-then-left_of-from-clause-asks : goal.returns-then-left_of-from-clause-asks
returns-then-left_of-from-clause-asks g c others = c.in_ok-row.ensures.asks _ ∙ asked_yes TooDeep _ _ (le-leb _ _ (omega (arith, c.len.ensures, c.if-len-ge-MOST_ARCS.false))) ∙ asked_no TooLittleLeft _ _ (lt-leb _ _ (omega (arith, c.left_of.ensures, c.from.ensures, c.if-left_of-from.true)))

pub returns-clause-asks : goal.returns-clause-asks
returns-clause-asks g c others = c.in_ok-row.ensures.asks _ ∙ asked_yes TooDeep _ _ (le-leb _ _ (omega (arith, c.len.ensures, c.if-len-ge-MOST_ARCS.false))) ∙ asked_yes TooLittleLeft _ _ (le-leb _ _ (omega (arith, c.left_of.ensures, c.from.ensures, c.if-left_of-from.false)))
