use Rattle.std.proofs.Common.{◌+◌, length, sym, ◌∙◌, arith}
use Rattle.std.proofs.lemmas.Bool.{le-leb, lt-leb, leb-true}
use Rattle.oid.specs.Meaning.{arcs_of}
use Rattle.dotted.specs.Writing.{dotted_text}
use Rattle.dotted.proofs.Texts.{text_most}
use Rattle.dotted.proofs.writer.has_room.Goals as goal

pub returns-then-fits : goal.returns-then-fits
returns-then-fits c =
    let text = dotted_text (arcs_of c.args.identifier.now) in
    let room = leb-true (c.args.place + 335) (length c.args.page.now) (sym c.fits.ensures ∙ c.if-fits.true) in
    c.if-fits.true ∙ sym (le-leb (c.args.place + length text) (length c.args.page.now) (omega (arith, room, text_most (arcs_of c.args.identifier.now) c.args.identifier.now.rule)))

pub returns-else-place-page : goal.returns-else-place-page
returns-else-place-page c =
    let text = dotted_text (arcs_of c.args.identifier.now) in
    lt-leb c.args.place (length c.args.page.now) (omega arith) ∙ sym (lt-leb (c.args.place + length text) (length c.args.page.now) (omega arith))
