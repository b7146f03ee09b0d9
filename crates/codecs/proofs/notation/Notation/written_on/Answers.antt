use Rattle.std.proofs.Common.{sym, ◌∙◌}
use Rattle.oid.specs.Meaning.{arcs_of}
use Rattle.oid.proofs.Pages.{written_front}
use Rattle.codecs.proofs.notation.Notation.written_on.Goals as goal

pub returns-clause-value : goal.returns-clause-value
returns-clause-value g c =
    let bytes = g.Self.Notation.written (arcs_of c.args.identifier.now) in
    let told = sym c.unwrap-end.ensures ∙ c.write.ensures.value in
    written_front bytes c.args.page.now c.write.new.page c.unwrap-end.result told c.write.ensures.after
