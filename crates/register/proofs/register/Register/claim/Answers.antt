use Rattle.std.proofs.Common.{not, Err, sym, ap, ◌∙◌}
use Rattle.std.proofs.lemmas.Result.{err_from_is_err_and}
use Rattle.book.specs.Questions.{entering}
use Rattle.book.specs.declared.kind.Kind.TheVariants.{Panel}
use Rattle.book.specs.declared.refusal.Refusal.TheVariants.{NoArc, ArcTaken}
use Rattle.register.specs.Registers.{book_of, answer_named}
use Rattle.register.proofs.Asking.{asked_yes, asked_no, follows_same, follows_no, follows_err}
use Rattle.register.proofs.Below.{arc_in_set, arc_not_in_set}
use Rattle.register.proofs.register.Register.claim.Goals as goal

pub returns-in_err-giver-clause-ruling : goal.returns-in_err-giver-clause-ruling
returns-in_err-giver-clause-ruling g c =
    let is = err_from_is_err_and c.from_residual.result c.from_residual.ensures.1 in
    follows_err _ _ _ _ (ap answer_named (is.1 ∙ ap Err is.2)) (c.in_err-giver.ensures.asks _)

pub returns-then-not-has_arc-clause-ruling : goal.returns-then-not-has_arc-clause-ruling
returns-then-not-has_arc-clause-ruling g c =
    follows_no _ _ NoArc (c.in_ok-giver.ensures.asks _ ∙ asked_no NoArc _ _ (arc_not_in_set (g.P.ArcRule.means c.args.self.now.panels).set c.args.arc c.ranges.arc.fits (sym c.if-not-has_arc.ensures)))

pub returns-then-is_taken-clause-ruling : goal.returns-then-is_taken-clause-ruling
returns-then-is_taken-clause-ruling g c =
    follows_no _ _ ArcTaken (c.in_ok-giver.ensures.asks _ ∙ asked_yes NoArc _ _ (arc_in_set (g.P.ArcRule.means c.args.self.now.panels).set c.args.arc c.ranges.arc.fits (sym c.if-not-has_arc.ensures)) ∙ asked_no ArcTaken _ _ (ap not (sym c.if-is_taken.ensures)))

pub returns-clause-ruling : goal.returns-clause-ruling
returns-clause-ruling g c =
    let made = ap (λ arcs. entering (book_of c.args.self.now) (record { identifier = arcs; kind = Panel; holder = c.in_ok-giver.giver.holder; quota = 0 })) (sym c.below.ensures) in
    follows_same _ _ _ _ _ (c.in_ok-giver.ensures.asks _ ∙ asked_yes NoArc _ _ (arc_in_set (g.P.ArcRule.means c.args.self.now.panels).set c.args.arc c.ranges.arc.fits (sym c.if-not-has_arc.ensures)) ∙ asked_yes ArcTaken _ _ (ap not (sym c.if-is_taken.ensures)) ∙ made) c.enter.ensures.ruling
