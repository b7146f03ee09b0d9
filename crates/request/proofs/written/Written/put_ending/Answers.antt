use Rattle.std.proofs.Common.{◌∷◌, [], ◌++◌, decimal, refl, sym, ap, Some}
use Rattle.request.specs.Answers.{feed, last_line}
use Rattle.request.proofs.Putting.{word_then, renumbered, rewritten}
use Rattle.request.proofs.written.Written.put_ending.Goals as goal

pub returns : goal.returns
returns c =
    let arc = c.in-Some.arc in
    let number = renumbered c.from.result arc 10 _ _ _ _ _ c.from.ensures c.put_number.ensures in
    rewritten (last_line (Some arc)) _ _ _ _ _ _ (ap last_line (sym c.in-Some.is))
    (word_then (109 ∷ 111 ∷ 114 ∷ 101 ∷ []) 32 (decimal arc ++ feed ∷ []) c.args.self.now.length c.args.page.now _ _ _ _ _ _ refl c.in_ok-put_word.ensures number)
