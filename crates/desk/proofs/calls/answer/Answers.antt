use Rattle.std.proofs.Common.{[], Ok, sym, ap, ◌∙◌}
use Rattle.counter.specs.Meaning.{call_of}
use Rattle.register.specs.Registers.{refusal_of}
use Rattle.runs.specs.Desks.{register_of, book_at, rules_at}
use Rattle.desk.specs.Answers.{told_at}
use Rattle.desk.proofs.Backs.{told_back}
use Rattle.desk.proofs.calls.answer.Goals as goal

pub returns-in-Ok-Collect-clause-told : goal.returns-in-Ok-Collect-clause-told
returns-in-Ok-Collect-clause-told g c =
    let desk = c.args.desk.now in
    let told = told_at (rules_at g.P.ArcRule.means g.A.ArcRule.means desk) (refusal_of (register_of desk)) (book_at desk) in
    rw c.in-Ok-Collect.is (
    c.told.ensures ∙ told_back c.serve.result _ _ c.serve.ensures.serves.answered ∙ sym (ap (λ call. told (Ok (call_of call))) (rw c.in-Ok-Collect.is at c.in-Ok-Collect.field-0-is)))

pub returns-in-Ok-Accept-clause-told : goal.returns-in-Ok-Accept-clause-told
returns-in-Ok-Accept-clause-told g c =
    let desk = c.args.desk.now in
    let told = told_at (rules_at g.P.ArcRule.means g.A.ArcRule.means desk) (refusal_of (register_of desk)) (book_at desk) in
    rw c.in-Ok-Accept.is (
    c.told-in-Ok-Accept.ensures ∙ told_back c.serve-in-Ok-Accept.result _ _ c.serve-in-Ok-Accept.ensures.serves.answered
    ∙ sym (ap (λ call. told (Ok (call_of call))) (rw c.in-Ok-Accept.is at c.in-Ok-Accept.field-0-is)))

pub returns-in-Ok-Decline-clause-told : goal.returns-in-Ok-Decline-clause-told
returns-in-Ok-Decline-clause-told g c =
    let desk = c.args.desk.now in
    let told = told_at (rules_at g.P.ArcRule.means g.A.ArcRule.means desk) (refusal_of (register_of desk)) (book_at desk) in
    rw c.in-Ok-Decline.is (
    c.told-in-Ok-Decline.ensures ∙ told_back c.serve-in-Ok-Decline.result _ _ c.serve-in-Ok-Decline.ensures.serves.answered
    ∙ sym (ap (λ call. told (Ok (call_of call))) (rw c.in-Ok-Decline.is at c.in-Ok-Decline.field-0-is)))
