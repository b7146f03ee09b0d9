use Rattle.std.proofs.Common.{decimal, refl, sym, ◌∙◌}
use Rattle.request.specs.Answers.{text_line, shown_words, child_line}
use Rattle.request.specs.Limits.{least_rest}
use Rattle.request.proofs.Putting.{word_then, renumbered, finished}
use Rattle.request.proofs.written.Written.put_child_line.Goals as goal

pub returns : goal.returns
returns c =
    let child = c.args.child.now in
    let number = renumbered c.from.result child.arc 32 _ _ _ _ _ c.from.ensures c.in_ok-put_number.ensures in
    let whole = word_then (decimal child.arc) 32 (text_line (shown_words child)) c.args.self.now.length c.args.page.now _ _ _ _ _ _ refl number c.in_ok-put_shown.ensures in
    finished (child_line child) least_rest c.args.self.now.length c.args.page.now _ _ _ _ refl c.drop-line-2.ensures (sym c.fits.ensures ∙ c.if-not-fits.false) whole
