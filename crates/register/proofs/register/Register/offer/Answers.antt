use Rattle.std.proofs.Common.{Err, sym, ap, ◌∙◌}
use Rattle.std.proofs.lemmas.Result.{err_from_is_err_and}
use Rattle.book.specs.Questions.{entering}
use Rattle.book.specs.declared.kind.Kind.TheVariants.{Offered}
use Rattle.book.specs.declared.refusal.Refusal.TheVariants.{NoArc}
use Rattle.register.specs.Registers.{book_of, answer_named}
use Rattle.register.proofs.Asking.{something, nothing, follows_same, follows_no, follows_err}
use Rattle.register.proofs.register.Register.offer.Goals as goal

pub returns-in_err-as_giver-clause-ruling : goal.returns-in_err-as_giver-clause-ruling
returns-in_err-as_giver-clause-ruling g c =
    let is = err_from_is_err_and c.from_residual.result c.from_residual.ensures.1 in
    follows_err _ _ _ _ (ap answer_named (is.1 ∙ ap Err is.2)) (c.in_err-as_giver.ensures.asks _)

pub returns-in_default-clause-ruling : goal.returns-in_default-clause-ruling
returns-in_default-clause-ruling g c =
    follows_no _ _ NoArc (c.in_ok-as_giver.ensures.asks _ ∙ nothing NoArc _ _ (sym c.offer_arc.ensures ∙ c.in_default.is))

pub returns-clause-ruling : goal.returns-clause-ruling
returns-clause-ruling g c =
    let book = book_of c.args.self.now in
    let made = ap (λ arcs. entering book (record { identifier = arcs; kind = Offered; holder = c.args.taker; quota = c.args.quota })) (sym c.below.ensures) in
    follows_same _ _ _ _ _ (c.in_ok-as_giver.ensures.asks _ ∙ something NoArc _ _ _ (sym c.offer_arc.ensures ∙ c.in-Some.is) ∙ made) c.enter.ensures.ruling
