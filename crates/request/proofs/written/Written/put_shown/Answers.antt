use Rattle.std.proofs.Common.{◌≡◌, ◌∷◌, [], ◌++◌, List, ℕ, true, decimal, refl, ap, sym, ◌∙◌}
use Rattle.std.specs.Result.{is_ok}
use Rattle.std.proofs.lemmas.Bool.{cond-true}
use Rattle.std.proofs.lemmas.Result.{err_from_is_err_and}
use Rattle.book.specs.Kinds.{is_authority}
use Rattle.request.specs.Answers.{feed, text_line, kind_word, shown_words}
use Rattle.request.specs.declared.child.Child.{Child}
use Rattle.request.proofs.Putting.{word_then, word_not, renumbered, rewritten}
use Rattle.request.proofs.written.Written.put_shown.Goals as goal

abbrev quota_on : Child → List ℕ
quota_on child = decimal child.quota ++ feed ∷ []

abbrev holder_on : Child → List ℕ
holder_on child = decimal child.holder ++ 32 ∷ quota_on child

of_authority : (child : Child) (word : List ℕ) → word ≡ kind_word child.kind → is_authority child.kind ≡ true
    → word ++ 32 ∷ holder_on child ≡ text_line (shown_words child)
of_authority child word is e =
    ap (λ w. w ++ 32 ∷ holder_on child) is ∙ ap (λ l. text_line (kind_word child.kind ∷ l)) (sym (cond-true (is_authority child.kind) _ _ e))

pub returns-in_err-put_number : goal.returns-in_err-put_number
returns-in_err-put_number c =
    let child = c.args.child.now in
    let p = err_from_is_err_and c.from_residual-in_err-put_number.result c.from_residual-in_err-put_number.ensures.1 in
    let number = renumbered c.from.result child.holder 32 _ _ _ _ _ c.from.ensures c.in_err-put_number.ensures in
    let second = word_not (decimal child.holder) 32 (quota_on child) _ _ _ _ _ _ refl (ap is_ok p.1) number in
    rewritten _ _ _ _ _ _ _ (of_authority child c.kind_word-kind.result.now c.kind_word-kind.ensures (sym c.is_authority.ensures ∙ c.if-not-is_authority.false))
    (word_then c.kind_word-kind.result.now 32 (holder_on child) c.args.self.now.length c.args.page.now _ _ _ _ _ _ refl c.in_ok-put_word.ensures second)

pub returns : goal.returns
returns c =
    let child = c.args.child.now in
    let quota = renumbered c.from-2.result child.quota 10 _ _ _ _ _ c.from-2.ensures c.put_number-2.ensures in
    let holder = renumbered c.from.result child.holder 32 _ _ _ _ _ c.from.ensures c.in_ok-put_number.ensures in
    let second = word_then (decimal child.holder) 32 (quota_on child) _ _ _ _ _ _ _ _ refl holder quota in
    rewritten _ _ _ _ _ _ _ (of_authority child c.kind_word-kind.result.now c.kind_word-kind.ensures (sym c.is_authority.ensures ∙ c.if-not-is_authority.false))
    (word_then c.kind_word-kind.result.now 32 (holder_on child) c.args.self.now.length c.args.page.now _ _ _ _ _ _ refl c.in_ok-put_word.ensures second)
