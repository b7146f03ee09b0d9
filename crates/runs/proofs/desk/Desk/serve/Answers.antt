use Rattle.std.proofs.Common.{length, sym, ◌∙◌}
use Rattle.register.specs.Registers.{book_of, rules_of, serial_of}
use Rattle.runs.specs.Calls.{exchange_of}
use Rattle.runs.specs.Desks.{book_at}
use Rattle.runs.specs.Out.{held_in}
use Rattle.runs.specs.declared.call.Back.TheVariants.{TooShort, Written}
use Rattle.runs.proofs.Onwards.{law_kept}
use Rattle.runs.proofs.AtDesk.{hands_at}
use Rattle.runs.proofs.Served.{hands_along}
use Rattle.runs.proofs.ByLine.{line_keeps}
use Rattle.runs.proofs.desk.Desk.serve.Goals as goal

pub invariant_of-self : goal.invariant_of-self
invariant_of-self g c =
    let desk = c.args.self.now in
    let after = hands_along (serial_of desk.register) (serial_of c.submit.new.self) _ (book_of c.submit.new.self) (held_in desk.held.items) c.submit.ensures.rest.serial
    c.submit.ensures.serves.leaves
    (line_keeps (rules_of g.P.ArcRule.means g.A.ArcRule.means desk.register) (serial_of desk.register) (book_of desk.register) (held_in desk.held.items) c.in-Line.line.now
    (length c.args.page.now) (hands_at desk)) in
    record { own = after.own; each_once = after.each_once; as_many = after.as_many; room = λ none. desk.room (sym c.submit.ensures.rest.refusal ∙ none) }

pub returns-in-Ok-clause-law : goal.returns-in-Ok-clause-law
returns-in-Ok-clause-law g c =
    law_kept _ _ (exchange_of c.args.call c.args.page.now (Written c.in-Ok.length) c.submit.new.page (book_of c.submit.new.self)) (rw c.in-Line.is c.in-Ok.ensures.serves)

pub returns-in-Err-clause-law : goal.returns-in-Err-clause-law
returns-in-Err-clause-law g c =
    law_kept _ _ (exchange_of c.args.call c.args.page.now TooShort c.submit.new.page (book_of c.submit.new.self)) (rw c.in-Line.is c.in-Err.ensures.serves)

pub returns-in-Collect-clause-serves : goal.returns-in-Collect-clause-serves
returns-in-Collect-clause-serves g c = rw c.in-Collect.is (c.collect.ensures.serves c.args.page.now)

pub returns-in-Collect-clause-law : goal.returns-in-Collect-clause-law
returns-in-Collect-clause-law g c =
    law_kept _ _ (exchange_of c.args.call c.args.page.now c.collect.result c.args.page.now (book_at c.collect.new.self)) (returns-in-Collect-clause-serves g c)

pub returns-in-Accept-clause-serves : goal.returns-in-Accept-clause-serves
returns-in-Accept-clause-serves g c = rw c.in-Accept.is (c.accept.ensures.serves c.args.page.now)

pub returns-in-Accept-clause-law : goal.returns-in-Accept-clause-law
returns-in-Accept-clause-law g c =
    law_kept _ _ (exchange_of c.args.call c.args.page.now c.accept.result c.args.page.now (book_at c.accept.new.self)) (returns-in-Accept-clause-serves g c)

pub returns-in-Decline-clause-serves : goal.returns-in-Decline-clause-serves
returns-in-Decline-clause-serves g c = rw c.in-Decline.is (c.decline.ensures.serves c.args.page.now)

pub returns-in-Decline-clause-law : goal.returns-in-Decline-clause-law
returns-in-Decline-clause-law g c =
    law_kept _ _ (exchange_of c.args.call c.args.page.now c.decline.result c.args.page.now (book_at c.decline.new.self)) (returns-in-Decline-clause-serves g c)
