use Rattle.std.proofs.Common.{◌≡◌, ◌<◌, Bool, true, false, length, nat_le, sym, ◌∙◌, subst, MatchOption}
use Rattle.std.specs.Bool.{then_some}
use Rattle.std.proofs.lemmas.Bool.{leb-true, leb-false}
use Rattle.input.specs.Limits.{line_limit}
use Rattle.input.proofs.Taking.{whole_kept, long_taken}
use Rattle.input.proofs.line.Line.whole.Goals as goal

pub returns-clause-value : goal.returns-clause-value
returns-clause-value c bytes took =
    subst (λ found. MatchOption found (line_limit < length bytes) (λ whole. whole.now ≡ bytes)) (sym c.then_some.ensures) (go c.is_whole.result c.is_whole.ensures.kept)
  where
    go : (is_whole : Bool) → is_whole ≡ nat_le (length c.args.self.now) line_limit
        → MatchOption (then_some is_whole c.as_slice.result) (line_limit < length bytes) (λ whole. whole.now ≡ bytes)
    go true e = c.as_slice.ensures.value ∙ c.self.view_is ∙ whole_kept line_limit bytes c.args.self.now took (leb-true _ _ (sym e))
    go false e = long_taken line_limit bytes c.args.self.now took (leb-false _ _ (sym e))
