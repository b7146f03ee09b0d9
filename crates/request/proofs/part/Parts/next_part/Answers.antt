use Rattle.std.proofs.Common.{length, ap, ◌∙◌, arith}
use Rattle.std.specs.List.{before_first}
use Rattle.std.proofs.lemmas.Slice.{between_to_end}
use Rattle.request.specs.Fields.{is_space}
use Rattle.request.proofs.Walking.{next_part}
use Rattle.request.proofs.part.Parts.next_part.Goals as goal

pub returns-clause-yields : goal.returns-clause-yields
returns-clause-yields c =
    let line = c.args.self.now.line.now in
    let place = c.args.self.now.place in
    let rest = c.in_ok-get.ensures.lookup.0.2 ∙ between_to_end line place (length line) (omega arith) in
    next_part line place _ (omega (arith, c.in_ok-get.ensures.lookup)) (c.first_piece-text.ensures ∙ ap (before_first is_space) rest)
