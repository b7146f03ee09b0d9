use Rattle.std.proofs.Common.{sym, ◌∙◌, subst}
use Rattle.std.proofs.lemmas.Result.{IfOk-weaker}
use Rattle.input.proofs.Taking.{last_none, last_some}
use Rattle.input.proofs.feed.take_last.Goals as goal

pub returns-then-is_empty : goal.returns-then-is_empty
returns-then-is_empty g c bytes under =
    let none = last_none bytes (sym (c.is_empty.ensures.taken bytes under) ∙ c.if-is_empty.true) in
    subst (λ lines. g.T.LineTaker.taken c.args.taker.now lines c.args.taker.now) (sym none) (g.met.T.LineTaker.none c.args.taker.now)

pub returns : goal.returns
returns g c =
    IfOk-weaker c.take_line.result _ _ (λ _ taken bytes under.
    let some = last_some bytes (sym (c.is_empty.ensures.taken bytes under) ∙ c.if-is_empty.false) in
    subst (λ lines. g.T.LineTaker.taken c.args.taker.now lines c.take_line.new.self) (sym some) (taken bytes under)) c.take_line.ensures
