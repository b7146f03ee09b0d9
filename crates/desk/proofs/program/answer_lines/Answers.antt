use Rattle.std.proofs.Common.{count_by, sym, ap, ◌∙◌, subst}
use Rattle.std.specs.Io.Buffered.{writer_contents}
use Rattle.std.specs.Io.KnownBytes.{Appends}
use Rattle.std.proofs.KnownBytes.{Appends-trans}
use Rattle.book.specs.Founding.{founding_refusal}
use Rattle.hall.specs.Founded.{founding_told, refusal_told}
use Rattle.input.proofs.Buffers.{empty_has}
use Rattle.options.specs.Options.{held}
use Rattle.runs.specs.Hands.{in_hand}
use Rattle.desk.specs.Left.{left_told}
use Rattle.desk.specs.Lines.{at_founding}
use Rattle.desk.proofs.Begun.{begun}
use Rattle.desk.proofs.Steps.{has_kept}
use Rattle.desk.proofs.program.answer_lines.Goals as goal

pub returns-clause-answered : goal.returns-clause-answered
returns-clause-answered g c =
    let contents = g.W.Write.contents in
    let errors = g.E.Write.contents in
    let options = c.args.options in
    let told = founding_told (held options) in
    let is = c.founding-founding.ensures.founding in
    let same = empty_has contents c.in_ok-buffered.buffered c.args.out c.in_ok-buffered.ensures.inner c.in_ok-buffered.ensures.empty in
    let long = sym c.in_ok-page.page.ok.0 ∙ c.in_ok-page.ensures.len in
    let begins = begun _ _ c.in_ok-desk.desk _ told _ options.page _ (contents c.args.out) is c.in_ok-desk.ensures.led c.in_ok-desk.ensures.refusal long same in
    let taken = c.in_ok-answering.ensures.taken in
    let at = taken.2 (at_founding told options.page (contents c.args.out)) begins in (
      taken.0,
      taken.1,
      has_kept (writer_contents contents c.read_lines-answering.new.taker.out) (writer_contents contents c.flush.new.self) _ at.output c.flush.ensures.bytes,
      Appends-trans (errors c.args.errors.now) (errors c.tell_refusal.new.out) (errors c.tell_left.new.out) _ _
          (subst (λ refusal. Appends (errors c.args.errors.now) (errors c.tell_refusal.new.out) (refusal_told refusal)) (c.refusal.ensures ∙ ap founding_refusal is)
          c.in_ok-tell_refusal.ensures)
          (subst (λ count. Appends (errors c.tell_refusal.new.out) (errors c.tell_left.new.out) (left_told count)) (c.out-left.ensures ∙ ap (count_by in_hand) at.book)
          c.in_ok-tell_left.ensures),
    )
