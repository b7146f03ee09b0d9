use Rattle.std.proofs.Common.{◌≡◌, ℕ, Bool, ◌==◌, take, ap, ◌∙◌, rules}
use borrow.Author.Tests.{tests}
use Rattle.std.specs.List.{position}
use Rattle.std.proofs.lemmas.Iterator.{YieldsList-from_slice}
use Rattle.std.proofs.lemmas.Iterator.Search.{position_from_yields_List}
use Rattle.dotted.proofs.Numerals.{end_of_first}
use Rattle.dotted.proofs.pieces.first_piece.Goals as goal

pub returns : goal.returns
returns c =
    let text = c.args.text.now in
    let is_end : ℕ → Bool = λ byte. byte == c.args.separator in
    let end : c.position-end.result ≡ position is_end text =
    position_from_yields_List is_end _ _ _ c.position-end.ensures.ran (YieldsList-from_slice text (cc)) (λ x b q k. search (rules, tests)) in
    ap (λ n. take n text) (c.unwrap_or.ensures ∙ end_of_first is_end text c.position-end.result end)
