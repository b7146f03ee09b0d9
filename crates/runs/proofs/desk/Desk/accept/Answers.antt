use Rattle.std.proofs.Common.{refl, sym, ◌∙◌, arith}
use Rattle.oid.specs.Meaning.{arcs_of}
use Rattle.book.specs.Runs.{accepts_grant}
use Rattle.register.specs.Registers.{book_of, rules_of, serial_of}
use Rattle.runs.specs.Out.{held_in}
use Rattle.runs.proofs.AtDesk.{hands_at}
use Rattle.runs.proofs.Served.{spends_taken, serves_none, serves_spent, hands_spent, passes}
use Rattle.runs.proofs.Spending.{none_refuses}
use Rattle.runs.proofs.desk.Desk.accept.Goals as goal

pub returns-in_default-clause-serves : goal.returns-in_default-clause-serves
returns-in_default-clause-serves g c page =
    let desk = c.args.self.now in
    let none = none_refuses (rules_of g.P.ArcRule.means g.A.ArcRule.means desk.register) (serial_of desk.register) (book_of desk.register) (held_in desk.held.items) (arcs_of c.args.entry.now) (hands_at desk) (sym c.place_of.ensures ∙ c.in_default.is) in
    serves_none (accepts_grant (arcs_of c.args.entry.now)) none.0 refl refl

pub invariant_of-self : goal.invariant_of-self
invariant_of-self g c =
    let desk = c.args.self.now in
    let spends = spends_taken (rules_of g.P.ArcRule.means g.A.ArcRule.means desk.register) desk (arcs_of c.args.entry.now) c.in-Some.place c.remove.result c.remove.new.self.items (sym c.place_of.ensures ∙ c.in-Some.is) c.remove.ensures.value c.remove.ensures.items in
    let after = hands_spent spends.0 c.accept.ensures.spends (serial_of c.accept.new.self) c.accept.ensures.rest.serial in
    record { own = after.own; each_once = after.each_once; as_many = after.as_many; room = λ none. let was = desk.room (sym c.accept.ensures.rest.refusal ∙ none) in omega (arith, was, c.remove.ensures.capacity) }

pub unreachable-requires : goal.unreachable-requires
unreachable-requires g c =
    let desk = c.args.self.now in
    let spends = spends_taken (rules_of g.P.ArcRule.means g.A.ArcRule.means desk.register) desk (arcs_of c.args.entry.now) c.in-Some.place c.remove.result c.remove.new.self.items (sym c.place_of.ensures ∙ c.in-Some.is) c.remove.ensures.value c.remove.ensures.items in
    passes spends.0 c.in-Err.ensures.spends _ refl

pub returns-clause-serves : goal.returns-clause-serves
returns-clause-serves g c page =
    let desk = c.args.self.now in
    let spends = spends_taken (rules_of g.P.ArcRule.means g.A.ArcRule.means desk.register) desk (arcs_of c.args.entry.now) c.in-Some.place c.remove.result c.remove.new.self.items (sym c.place_of.ensures ∙ c.in-Some.is) c.remove.ensures.value c.remove.ensures.items in
    serves_spent spends.0 c.accept.ensures.spends (accepts_grant (arcs_of c.args.entry.now)) refl refl
