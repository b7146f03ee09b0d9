use Rattle.std.proofs.Common.{[], ◌∷◌, ◌++◌, length, sym, ap, ◌∙◌}
use Rattle.std.proofs.lemmas.Bool.{leb-true, leb-false}
use Rattle.input.specs.Limits.{line_limit}
use Rattle.input.proofs.Taking.{kept_more, kept_full}
use Rattle.input.proofs.line.Line.take.Goals as goal

pub returns-then-is_whole : goal.returns-then-is_whole
returns-then-is_whole c bytes took =
    let kept = c.args.self.now in
    c.push_reserved.ensures.items ∙ ap (λ l. l ++ c.args.byte ∷ []) c.self.view_is
    ∙ kept_more line_limit bytes kept took c.args.byte (leb-true (length kept) line_limit (sym c.if-is_whole.ensures.kept))

pub returns-else-is_whole : goal.returns-else-is_whole
returns-else-is_whole c bytes took =
    let kept = c.args.self.now in
    kept_full line_limit bytes kept took c.args.byte (leb-false (length kept) line_limit (sym c.if-is_whole.ensures.kept))
