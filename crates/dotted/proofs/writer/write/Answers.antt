use Rattle.std.proofs.Common.{◌≡◌, ◌+◌, true, length, sym, ap, ◌∙◌, arith}
use Rattle.std.proofs.lemmas.Bool.{leb-false}
use Rattle.oid.specs.Meaning.{arcs_of}
use Rattle.oid.specs.Pages.{fits}
use Rattle.oid.proofs.Pages.{lent_after, lent_between}
use Rattle.dotted.specs.Reading.{read_dotted}
use Rattle.dotted.specs.Writing.{dotted_text}
use Rattle.dotted.proofs.Texts.{text_most}
use Rattle.dotted.proofs.Theorems.{reads_back}
use Rattle.dotted.proofs.writer.write.Goals as goal
use Rattle.dotted.proofs.writer.write.Goals.{After-write_text-length}

pub returns-then-not-has_room-clause-succeeds : goal.returns-then-not-has_room-clause-succeeds
returns-then-not-has_room-clause-succeeds c = λ h.
    let text = dotted_text (arcs_of c.args.identifier.now) in
    let few = leb-false (c.args.place + length text) (length c.args.page.now) (sym c.if-not-has_room.ensures) in
    absurd (omega (arith, text_most (arcs_of c.args.identifier.now) c.args.identifier.now.rule))

-- there was room for it
room : (c : After-write_text-length) → fits c.args.place (dotted_text (arcs_of c.args.identifier.now)) c.args.page.now ≡ true
room c = sym c.has_room.ensures ∙ c.if-not-has_room.false

pub returns-clause-after : goal.returns-clause-after
returns-clause-after c =
    lent_after c.args.place (dotted_text (arcs_of c.args.identifier.now)) c.args.page.now c.write_text-length.new.page (room (goal.at.returns-clause-after c).After-write_text-length) c.write_text-length.ensures.after

pub returns-clause-reads_back : goal.returns-clause-reads_back
returns-clause-reads_back c =
    let text = dotted_text (arcs_of c.args.identifier.now) in
    let there = room (goal.at.returns-clause-reads_back c).After-write_text-length in
    ap read_dotted (lent_between c.args.place text c.args.page.now c.write_text-length.new.page there c.write_text-length.ensures.after _ c.write_text-length.ensures.value)
    ∙ reads_back (arcs_of c.args.identifier.now) c.args.identifier.now.rule
