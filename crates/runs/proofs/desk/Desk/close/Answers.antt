use Rattle.std.proofs.Common.{sym, ap, ◌∙◌}
use Rattle.oid.specs.Meaning.{arcs_of}
use Rattle.register.specs.Granted.{answer_by_grant}
use Rattle.register.specs.Registers.{book_of, rules_of, serial_of}
use Rattle.runs.specs.Out.{held_in}
use Rattle.runs.proofs.AtDesk.{hands_at}
use Rattle.runs.proofs.Declining.{none_yet, all_declined, last_declined, refused_or_named, none_out_of, same_rest, rest_kept}
use Rattle.runs.proofs.desk.Desk.close.Goals as goal

pub loop-last-init : goal.loop-last-init
loop-last-init g c =
    let self = c.args.self in
    let register = self.register in
    record {
      declines = none_yet (rules_of g.P.ArcRule.means g.A.ArcRule.means register) (serial_of register) (book_of register) (held_in self.held.items)
          (hands_at self);
      rest = same_rest register;
    }

pub loop-last-preserved : goal.loop-last-preserved
loop-last-preserved g c =
    let first = c.args.self.register in
    let declined = last_declined (rules_of g.P.ArcRule.means g.A.ArcRule.means first) first c.loop-last.register c.decline.new.self
    c.loop-last.held.items c.pop.new.self.items c.in-Some.last (answer_by_grant c.decline.result)
    c.loop-last.invariant.declines c.loop-last.invariant.rest c.in-Some.ensures.items c.decline.ensures.spends in
    record { declines = declined.1; rest = rest_kept first c.loop-last.register c.decline.new.self c.loop-last.invariant.rest c.decline.ensures.rest }

pub unreachable-requires : goal.unreachable-requires
unreachable-requires g c =
    let first = c.args.self.register in
    let declined = last_declined (rules_of g.P.ArcRule.means g.A.ArcRule.means first) first c.loop-last.register c.decline.new.self
    c.loop-last.held.items c.pop.new.self.items c.in-Some.last (answer_by_grant c.decline.result)
    c.loop-last.invariant.declines c.loop-last.invariant.rest c.in-Some.ensures.items c.decline.ensures.spends in
    refused_or_named c.in-Err._unspent.refusal (arcs_of c.in-Some.last.entry) (sym (ap answer_by_grant c.in-Err.is) ∙ declined.0)

pub returns-clause-closes : goal.returns-clause-closes
returns-clause-closes g c =
    let first = c.args.self.register in
    all_declined (rules_of g.P.ArcRule.means g.A.ArcRule.means first) (serial_of first) (book_of first) (book_of c.loop-last.register)
    (held_in c.loop-last.held.items) c.loop-last.invariant.declines
    (none_out_of c.loop-last.held.items (sym c.loop-last.held.ok.0 ∙ c.in_default.ensures.cases.0))

pub returns-clause-rest : goal.returns-clause-rest
returns-clause-rest g c = c.loop-last.invariant.rest
