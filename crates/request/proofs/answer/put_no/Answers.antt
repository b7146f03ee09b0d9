use Rattle.std.proofs.Common.{◌≡◌, ◌∷◌, [], ◌++◌, List, ℕ, decimal, refl, ap, ◌∙◌, arith}
use Rattle.std.specs.Result.{is_ok}
use Rattle.std.proofs.lemmas.Result.{err_from_is_err_and}
use Rattle.request.specs.Answers.{feed, no_line}
use Rattle.request.specs.Refusals.{number_of, letter_of}
use Rattle.request.specs.declared.refusal.Fault.{Fault}
use Rattle.request.proofs.Putting.{word_then, word_not, renumbered, rewritten}
use Rattle.request.proofs.answer.put_no.Goals as goal

-- what follows the letter, the number and the `no`
abbrev offset_on : Fault → List ℕ
offset_on fault = decimal fault.offset ++ feed ∷ []

abbrev letter_on : ℕ → Fault → List ℕ
letter_on letter fault = letter ∷ 32 ∷ offset_on fault

abbrev number_on : ℕ → Fault → List ℕ
number_on letter fault = decimal (number_of fault.refusal) ++ 32 ∷ letter_on letter fault

same_letter : (fault : Fault) (letter : ℕ) → letter ≡ letter_of fault.refusal → 110 ∷ 111 ∷ 32 ∷ number_on letter fault ≡ no_line fault
same_letter fault letter e = ap (λ l. 110 ∷ 111 ∷ 32 ∷ number_on l fault) e

pub returns-in_err-put_number : goal.returns-in_err-put_number
returns-in_err-put_number c =
    let fault = c.args.fault in
    let letter = letter_of fault.refusal in
    let p = err_from_is_err_and c.from_residual-in_err-put_number.result c.from_residual-in_err-put_number.ensures.1 in
    let number = renumbered c.from.result (number_of fault.refusal) 32 _ _ _ _ _ (c.from.ensures ∙ c.number.ensures) c.in_err-put_number.ensures in
    let second = word_not (decimal (number_of fault.refusal)) 32 (letter_on letter fault) _ _ _ _ _ _ refl (ap is_ok p.1) number in
    let line = word_then (110 ∷ 111 ∷ []) 32 (number_on letter fault) c.args.written.now.length c.args.page.now _ _ _ _ _ _ refl c.in_ok-put_word.ensures second in
    record { puts = line; offset = omega arith }

pub returns-in_err-put_word-2 : goal.returns-in_err-put_word-2
returns-in_err-put_word-2 c =
    let fault = c.args.fault in
    let letter = c.letter.result in
    let p = err_from_is_err_and c.from_residual-in_err-put_word-2.result c.from_residual-in_err-put_word-2.ensures.1 in
    let third = word_not (letter ∷ []) 32 (offset_on fault) _ _ _ _ _ _ refl (ap is_ok p.1) c.in_err-put_word-2.ensures in
    let number = renumbered c.from.result (number_of fault.refusal) 32 _ _ _ _ _ (c.from.ensures ∙ c.number.ensures) c.in_ok-put_number.ensures in
    let second = word_then (decimal (number_of fault.refusal)) 32 (letter_on letter fault) _ _ _ _ _ _ _ _ refl number third in
    let line =
    rewritten _ (no_line fault) _ _ _ _ _ (same_letter fault letter c.letter.ensures)
    (word_then (110 ∷ 111 ∷ []) 32 (number_on letter fault) c.args.written.now.length c.args.page.now _ _ _ _ _ _ refl c.in_ok-put_word.ensures second) in
    record { puts = line; offset = omega arith }

pub returns : goal.returns
returns c =
    let fault = c.args.fault in
    let letter = c.letter.result in
    let third = word_then (letter ∷ []) 32 (offset_on fault) _ _ _ _ _ _ _ _ refl c.in_ok-put_word-2.ensures c.put_number-2.ensures in
    let number = renumbered c.from.result (number_of fault.refusal) 32 _ _ _ _ _ (c.from.ensures ∙ c.number.ensures) c.in_ok-put_number.ensures in
    let second = word_then (decimal (number_of fault.refusal)) 32 (letter_on letter fault) _ _ _ _ _ _ _ _ refl number third in
    let line =
    rewritten _ (no_line fault) _ _ _ _ _ (same_letter fault letter c.letter.ensures)
    (word_then (110 ∷ 111 ∷ []) 32 (number_on letter fault) c.args.written.now.length c.args.page.now _ _ _ _ _ _ refl c.in_ok-put_word.ensures second) in
    record { puts = line; offset = omega arith }
