use Rattle.std.proofs.Common.{sym, ◌∙◌, arith}
use Rattle.oid.specs.Meaning.{arcs_of}
use Rattle.register.specs.Registers.{book_of, serial_of}
use Rattle.runs.specs.Out.{held_in}
use Rattle.runs.proofs.AtDesk.{hands_at}
use Rattle.runs.proofs.Reordering.{no_terms, behind_again, tells_terms}
use Rattle.runs.proofs.desk.Desk.terms.Goals as goal

pub returns-in_default-clause-terms : goal.returns-in_default-clause-terms
returns-in_default-clause-terms g c =
    let self = c.args.self.now in
    sym (no_terms (serial_of self.register) (book_of self.register) (held_in self.held.items) (arcs_of c.args.entry.now)
    (hands_at self) (sym c.place_of.ensures ∙ c.in_default.is))

pub invariant_of-self : goal.invariant_of-self
invariant_of-self g c =
    let self = c.args.self.now in
    let hands = behind_again (serial_of self.register) (book_of self.register) self.held.items c.remove.new.self.items c.push_reserved.new.self.items
    (arcs_of c.args.entry.now) c.in-Some.place c.remove.result c.terms.result.0
    (hands_at self)
    (sym c.place_of.ensures ∙ c.in-Some.is) c.remove.ensures.value c.remove.ensures.items c.terms.ensures.same c.push_reserved.ensures.items in
    record {
      own = hands.own;
      each_once = hands.each_once;
      as_many = hands.as_many;
      room = omega (arith, self.room, c.remove.ensures.capacity, c.push_reserved.ensures.capacity);
    }

pub returns-clause-terms : goal.returns-clause-terms
returns-clause-terms g c =
    let self = c.args.self.now in
    tells_terms (serial_of self.register) (book_of self.register) self.held.items (arcs_of c.args.entry.now) c.in-Some.place c.remove.result
    c.terms.result.1 (hands_at self)
    (sym c.place_of.ensures ∙ c.in-Some.is) c.remove.ensures.value c.terms.ensures.holder c.terms.ensures.quota
