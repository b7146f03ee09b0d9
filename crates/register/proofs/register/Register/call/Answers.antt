use Rattle.std.proofs.Common.{Err, ap, ◌∙◌}
use Rattle.std.proofs.lemmas.Result.{err_from_is_err_and}
use Rattle.oid.specs.Meaning.{arcs_of}
use Rattle.book.specs.Rulings.{named}
use Rattle.register.specs.Yes.{answer_yes}
use Rattle.register.proofs.Asking.{follows_answer}
use Rattle.register.proofs.register.Register.call.Goals as goal

pub returns-in_err-turn_offer-in-Accept-clause-ruling : goal.returns-in_err-turn_offer-in-Accept-clause-ruling
returns-in_err-turn_offer-in-Accept-clause-ruling g c =
    let answered = c.from_residual-in_err-turn_offer-in-Accept in
    let is = err_from_is_err_and answered.result answered.ensures.1 in
    rw c.in-Accept.is (follows_answer _ _ _ _ _ (ap (answer_yes _) (is.1 ∙ ap Err is.2))
    (c.in_err-turn_offer-in-Accept.ensures.ruling (λ entry. named (arcs_of c.in-Accept.entry))))

pub returns-in_ok-turn_offer-in-Accept-clause-ruling : goal.returns-in_ok-turn_offer-in-Accept-clause-ruling
returns-in_ok-turn_offer-in-Accept-clause-ruling g c = rw c.in-Accept.is (c.in_ok-turn_offer-in-Accept.ensures.ruling (λ entry. named (arcs_of c.in-Accept.entry)))

pub returns-in_err-turn_offer-in-Decline-clause-ruling : goal.returns-in_err-turn_offer-in-Decline-clause-ruling
returns-in_err-turn_offer-in-Decline-clause-ruling g c =
    let answered = c.from_residual-in_err-turn_offer-in-Decline in
    let is = err_from_is_err_and answered.result answered.ensures.1 in
    rw c.in-Decline.is (follows_answer _ _ _ _ _ (ap (answer_yes _) (is.1 ∙ ap Err is.2))
    (c.in_err-turn_offer-in-Decline.ensures.ruling (λ entry. named (arcs_of c.in-Decline.entry))))

pub returns-in_ok-turn_offer-in-Decline-clause-ruling : goal.returns-in_ok-turn_offer-in-Decline-clause-ruling
returns-in_ok-turn_offer-in-Decline-clause-ruling g c = rw c.in-Decline.is (c.in_ok-turn_offer-in-Decline.ensures.ruling (λ entry. named (arcs_of c.in-Decline.entry)))

pub returns-in_err-retire-in-Retire-clause-ruling : goal.returns-in_err-retire-in-Retire-clause-ruling
returns-in_err-retire-in-Retire-clause-ruling g c =
    let answered = c.from_residual-in_err-retire-in-Retire in
    let is = err_from_is_err_and answered.result answered.ensures.1 in
    rw c.in-Retire.is (follows_answer _ _ _ _ _ (ap (answer_yes _) (is.1 ∙ ap Err is.2))
    (c.in_err-retire-in-Retire.ensures.ruling (λ entry. named (arcs_of c.in-Retire.entry))))

pub returns-in_ok-retire-in-Retire-clause-ruling : goal.returns-in_ok-retire-in-Retire-clause-ruling
returns-in_ok-retire-in-Retire-clause-ruling g c = rw c.in-Retire.is (c.in_ok-retire-in-Retire.ensures.ruling (λ entry. named (arcs_of c.in-Retire.entry)))

pub returns-in_err-named-in-Grant-clause-ruling : goal.returns-in_err-named-in-Grant-clause-ruling
returns-in_err-named-in-Grant-clause-ruling g c =
    let is = err_from_is_err_and c.from_residual.result c.from_residual.ensures.1 in
    rw c.in-Grant.is (follows_answer _ _ _ _ _ (ap (answer_yes _) (is.1 ∙ ap Err is.2)) c.in_err-named-in-Grant.ensures.ruling)

pub returns-in_ok-named-in-Grant-clause-ruling : goal.returns-in_ok-named-in-Grant-clause-ruling
returns-in_ok-named-in-Grant-clause-ruling g c = rw c.in-Grant.is c.in_ok-named-in-Grant.ensures.ruling

pub returns-in_err-named-in-Claim-clause-ruling : goal.returns-in_err-named-in-Claim-clause-ruling
returns-in_err-named-in-Claim-clause-ruling g c =
    let is = err_from_is_err_and c.from_residual-in_err-named-in-Claim.result c.from_residual-in_err-named-in-Claim.ensures.1 in
    rw c.in-Claim.is (follows_answer _ _ _ _ _ (ap (answer_yes _) (is.1 ∙ ap Err is.2)) c.in_err-named-in-Claim.ensures.ruling)

pub returns-in_err-named-in-Offer-clause-ruling : goal.returns-in_err-named-in-Offer-clause-ruling
returns-in_err-named-in-Offer-clause-ruling g c =
    let is = err_from_is_err_and c.from_residual-in_err-named-in-Offer.result c.from_residual-in_err-named-in-Offer.ensures.1 in
    rw c.in-Offer.is (follows_answer _ _ _ _ _ (ap (answer_yes _) (is.1 ∙ ap Err is.2)) c.in_err-named-in-Offer.ensures.ruling)

pub returns-in_ok-named-in-Offer-clause-ruling : goal.returns-in_ok-named-in-Offer-clause-ruling
returns-in_ok-named-in-Offer-clause-ruling g c = rw c.in-Offer.is c.in_ok-named-in-Offer.ensures.ruling
