use Rattle.std.proofs.Common.{◌++◌, ap, ◌∙◌, subst, codes}
use Rattle.std.specs.Io.KnownBytes.{Appends}
use Rattle.std.proofs.KnownBytes.{Appends-trans}
use Rattle.input.specs.Answers.{answers}
use Rattle.input.specs.Counting.{all_counted, counts_said}
use Rattle.std.specs.Io.Buffered.{writer_contents}
use Rattle.input.proofs.Buffers.{empty_has}
use Rattle.input.proofs.Counted.{counted_all}
use Rattle.input.proofs.checking.check_lines.Goals as goal

pub returns : goal.returns
returns g c =
    let good = g.C.Checker.good in
    let answer = g.C.Checker.answer in
    let contents = g.W.Write.contents in
    let before = contents c.args.out in
    let answered = writer_contents contents c.read_lines.new.taker.out in
    let after = contents c.in_ok-out.out in
    let lines = c.in_ok-read_lines.ensures.taken.0 in
    let taken = c.in_ok-read_lines.ensures.taken.2 in
    let counts = taken.0 ∙ ap (all_counted good lines) c.new-tally.ensures ∙ counted_all good lines in
    let begun = empty_has contents c.in_ok-buffered.buffered c.args.out c.in_ok-buffered.ensures.inner c.in_ok-buffered.ensures.empty in (
      lines,
      c.in_ok-read_lines.ensures.taken.1,
      counts,
      subst (λ tally. Appends before after (answers answer lines ++ (counts_said tally ++ codes "\n"))) counts
          (Appends-trans before answered after (answers answer lines) _ (subst (λ known. Appends known answered (answers answer lines)) begun taken.1) c.in_ok-out.ensures),
    )
