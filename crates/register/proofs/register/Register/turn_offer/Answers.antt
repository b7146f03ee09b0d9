use Rattle.std.proofs.Common.{Err, ap, ◌∙◌}
use Rattle.std.proofs.lemmas.Bool.{eq-eqb, ne_eqb}
use Rattle.std.proofs.lemmas.Result.{err_from_is_err_and}
use Rattle.oid.specs.Meaning.{arcs_of}
use Rattle.register.specs.Asked.{answer_turned}
use Rattle.register.specs.Registers.{book_of}
use Rattle.register.proofs.Asking.{follows_err}
use Rattle.register.proofs.Turns.{follows_turn, follows_no_right}
use Rattle.register.proofs.register.Register.turn_offer.Goals as goal

pub returns-in_err-standing-clause-ruling : goal.returns-in_err-standing-clause-ruling
returns-in_err-standing-clause-ruling g c answer =
    let is = err_from_is_err_and c.from_residual.result c.from_residual.ensures.1 in
    follows_err _ _ _ _ (ap (answer_turned answer) (is.1 ∙ ap Err is.2)) (c.in_err-standing.ensures.refuses _)

pub returns-then-taker-standing-clause-ruling : goal.returns-then-taker-standing-clause-ruling
returns-then-taker-standing-clause-ruling g c answer =
    follows_no_right (book_of c.args.self.now) (arcs_of c.args.entry.now) c.args.event c.in_ok-standing.standing c.in_ok-standing.ensures.stands _ answer
    (ne_eqb _ _ c.if-taker-standing.true)

pub returns-clause-ruling : goal.returns-clause-ruling
returns-clause-ruling g c answer =
    follows_turn (book_of c.args.self.now) (arcs_of c.args.entry.now) c.args.event c.in_ok-standing.standing c.in_ok-standing.ensures.stands _ answer _
    (eq-eqb _ _ c.if-taker-standing.false) c.turn.ensures.book
