use Rattle.std.proofs.Common.{◌++◌, codes, ◌∙◌, subst}
use Rattle.std.specs.Io.Buffered.{writer_contents}
use Rattle.std.specs.Io.KnownBytes.{Appends}
use Rattle.std.specs.Option.{option_or}
use Rattle.std.proofs.KnownBytes.{Appends-trans}
use Rattle.input.proofs.Buffers.{empty_has}
use Rattle.conformance.specs.Comparing.{first_difference}
use Rattle.conformance.specs.Output.{example_line, standards, newer}
use Rattle.conformance.proofs.Compared.{compared_said}
use Rattle.conformance.proofs.running.compare_all.Goals as goal

pub returns : goal.returns
returns g c =
    let contents = g.W.Write.contents in
    let comparison = c.in_ok-comparison.comparison in
    let given = c.in_ok-comparison.ensures in
    let compared = given.2 in
    let before = contents c.args.out in
    let one = writer_contents contents c.compare_example.new.out in
    let both = writer_contents contents c.compare_example-2.new.out in
    let after = contents c.in_ok-out.out in
    let begun = empty_has contents c.in_ok-buffered.buffered c.args.out c.in_ok-buffered.ensures.inner c.in_ok-buffered.ensures.empty in
    let first = subst (λ known. Appends known one (example_line standards)) begun c.in_ok-standards.ensures.1 in
    let examples = Appends-trans before one both (example_line standards) (example_line newer) first c.in_ok-newer.ensures.1 in (
      given.0,
      given.1,
      c.or-first.ensures ∙ (λ k. option_or (c.or.ensures k) (compared.first k)) ∙ (λ k. option_or (option_or (c.in_ok-standards.ensures.0 k) (c.in_ok-newer.ensures.0 k)) (first_difference given.0)),
      subst (λ text. Appends before after ((example_line standards ++ example_line newer) ++ (text ++ codes "\n"))) (compared_said comparison _ compared)
          (Appends-trans before both after (example_line standards ++ example_line newer) _ examples c.in_ok-out.ensures),
    )
