use Rattle.std.proofs.Common.{◌≤◌, length, sym, ap, ◌∙◌, subst}
use Rattle.std.proofs.lemmas.Bool.Decides.{Decides-eqb}
use Rattle.std.proofs.lemmas.Option.{MatchOption-at_some, MatchOption-at_none}
use Rattle.std.proofs.lemmas.Slice.Eq.{strip_prefix_is}
use Rattle.input.specs.Limits.{line_limit}
use Rattle.sticker.specs.Answers.{chip_word, on_text}
use Rattle.sticker.proofs.Judged.{line_chip, line_text}
use Rattle.sticker.proofs.judging.judge.Goals as goal

pub returns-in-Some-strip_prefix : goal.returns-in-Some-strip_prefix
unfolding chip_word
returns-in-Some-strip_prefix c bytes took =
    let same = c.in-Some.ensures.value bytes took in
    let short = subst (λ l. length l ≤ line_limit) same c.in-Some.ensures.bound in
    let strip = strip_prefix_is Decides-eqb c.in-Some.bytes.now chip_word c.strip_prefix.result c.strip_prefix.ensures.cases in
    let digits = c.in-Some-strip_prefix.digits in
    let front = MatchOption-at_some _ _ digits c.in-Some-strip_prefix.is strip in
    c.judge_digits.ensures ∙ sym (line_chip bytes short digits.now (sym same ∙ front))

pub returns-in-None : goal.returns-in-None
unfolding chip_word
returns-in-None c bytes took =
    let same = c.in-Some.ensures.value bytes took in
    let short = subst (λ l. length l ≤ line_limit) same c.in-Some.ensures.bound in
    let strip = strip_prefix_is Decides-eqb c.in-Some.bytes.now chip_word c.strip_prefix.result c.strip_prefix.ensures.cases in
    let other = MatchOption-at_none _ _ c.in-None.is strip in
    c.judge_text.ensures ∙ ap on_text same ∙ sym (line_text bytes short (λ rest e. other rest (same ∙ e)))
