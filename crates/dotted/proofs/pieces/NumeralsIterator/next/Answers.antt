use Rattle.std.proofs.Common.{length, ap, ◌∙◌, arith}
use Rattle.std.specs.List.{before_first}
use Rattle.std.proofs.lemmas.Slice.{between_to_end}
use Rattle.dotted.specs.Form.{is_dot}
use Rattle.dotted.proofs.Numerals.{numbers_first}
use Rattle.dotted.proofs.pieces.NumeralsIterator.next.Goals as goal

pub returns-clause-steps : goal.returns-clause-steps
returns-clause-steps c =
    let text = c.args.self.now.text.now in
    let place = c.args.self.now.place in
    let rest = c.in_ok-get.ensures.lookup.0.2 ∙ between_to_end text place (length text) (omega arith) in
    numbers_first text place _ _ (omega (arith, c.in_ok-get.ensures.lookup)) (c.first_piece-piece.ensures ∙ ap (before_first is_dot) rest) c.numeral_in-numeral.ensures

pub returns-clause-goes : goal.returns-clause-goes
returns-clause-goes c =
    let text = c.args.self.now.text.now in
    let place = c.args.self.now.place in
    let rest = c.in_ok-get.ensures.lookup.0.2 ∙ between_to_end text place (length text) (omega arith) in
    let fewer = ap length (numbers_first text place _ _ (omega (arith, c.in_ok-get.ensures.lookup)) (c.first_piece-piece.ensures ∙ ap (before_first is_dot) rest) c.numeral_in-numeral.ensures) in
    record { on = λ h. (tt, tt, omega (arith, fewer)); keeps = tt; rests = λ h. tt }
