use Rattle.std.proofs.Common.{refl, sym, ◌∙◌, arith}
use Rattle.std.proofs.lemmas.List.{length-map}
use Rattle.oid.specs.Meaning.{arcs_of}
use Rattle.register.specs.Kept.{entry_of}
use Rattle.register.specs.Registers.{book_of, rules_of, serial_of}
use Rattle.runs.specs.Out.{held_of, held_in}
use Rattle.runs.proofs.Counts.{fewer}
use Rattle.runs.proofs.AtDesk.{hands_at}
use Rattle.runs.proofs.Served.{not_refused, refused_hands, collected_hands}
use Rattle.runs.proofs.desk.Desk.collect.Goals as goal

pub push_reserved-requires : goal.push_reserved-requires
push_reserved-requires g c =
    let desk = c.args.self.now in
    let rules = rules_of g.P.ArcRule.means g.A.ArcRule.means desk.register in
    let less = fewer rules (serial_of desk.register) (book_of desk.register) (held_in desk.held.items) c.args.taker (arcs_of c.args.entry.now)
    c.in-Ok.grant.holder c.in-Ok.grant.quota (sym c.in-Ok.ensures.ruling.answers) (hands_at desk) in
    let room = desk.room (not_refused desk.register.refused_for desk.register.rows.items _ desk.register.emptied less) in
    omega (arith, less, room, desk.held.ok.0, desk.register.few, desk.register.rows.ok.0, length-map desk.held.items held_of, length-map desk.register.rows.items entry_of)

pub invariant_of-self : goal.invariant_of-self
invariant_of-self g c =
    let desk = c.args.self.now in
    let after = collected_hands (rules_of g.P.ArcRule.means g.A.ArcRule.means desk.register) (serial_of desk.register) (serial_of c.collect.new.self) (book_of desk.register)
    (book_of c.collect.new.self) desk.held.items c.args.taker (arcs_of c.args.entry.now) c.in-Ok.ensures.rest.serial (hands_at desk)
    c.args.entry.now c.in-Ok.grant c.terms.result.0 c.push_reserved.new.self.items refl c.in-Ok.ensures.ruling c.in-Ok.ensures.own c.terms.ensures.same c.push_reserved.ensures.items in
    record { own = after.own; each_once = after.each_once; as_many = after.as_many; room = λ none. let was = desk.room (sym c.in-Ok.ensures.rest.refusal ∙ none) in omega (arith, was, c.push_reserved.ensures.capacity) }

pub invariant_of-self-in-Err-1 : goal.invariant_of-self-in-Err-1
invariant_of-self-in-Err-1 g c =
    let desk = c.args.self.now in
    let after = refused_hands (rules_of g.P.ArcRule.means g.A.ArcRule.means desk.register) (serial_of desk.register) (serial_of c.collect.new.self) (book_of desk.register)
    (book_of c.collect.new.self) desk.held.items c.args.taker (arcs_of c.args.entry.now) c.in-Err.ensures.rest.serial (hands_at desk) c.in-Err.refusal c.in-Err.ensures.ruling in
    record { own = after.own; each_once = after.each_once; as_many = after.as_many; room = λ none. desk.room (sym c.in-Err.ensures.rest.refusal ∙ none) }
