-- The answer to a line, by what the line is.
use Rattle.std.proofs.Common.{◌≡◌, ◌≢◌, ℕ, ◌≤◌, Bool, true, false, cond, leb, is_ok, List, ◌++◌, length, drop, Ok, Err, Result, refl, ◌∙◌}
use Rattle.std.proofs.lemmas.Bool.{cond-true, cond-false, le-leb}
use Rattle.oid.specs.Tree.{begins_with}
use Rattle.oid.proofs.Tree.{begins_front, front_begins}
use Rattle.input.specs.Limits.{line_limit}
use Rattle.sticker.specs.Answers.{chip_word, said, is_good, on_digits, on_text, on_line}
use Rattle.sticker.specs.declared.trouble.Trouble.{Trouble}
use Rattle.sticker.specs.declared.trouble.Trouble.TheVariants.{Faulty, NotHex, Long}
use Rattle.sticker.specs.declared.found.Found.{Found}
use Rattle.sticker.specs.declared.found.Found.TheVariants.{Sticker, Chip}

module _ (line : List ℕ) (short : length line ≤ line_limit) where
  within : on_line line ≡ cond (begins_with line chip_word) (on_digits (drop (length chip_word) line)) (on_text line)
  within = cond-true (leb (length line) line_limit) _ _ (le-leb (length line) line_limit short)

  pub line_chip : (rest : List ℕ) → line ≡ chip_word ++ rest → on_line line ≡ on_digits rest
  unfolding chip_word
  line_chip rest e =
      let begins : begins_with line chip_word ≡ true = rw e (front_begins chip_word rest) in
      within ∙ cond-true (begins_with line chip_word) _ _ begins ∙ (λ k. on_digits (drop (length chip_word) (e k)))

  pub line_text : ((rest : List ℕ) → line ≢ chip_word ++ rest) → on_line line ≡ on_text line
  line_text other = within ∙ cond-false (begins_with line chip_word) _ _ (go (begins_with line chip_word) refl)
    where
      go : (v : Bool) → begins_with line chip_word ≡ v → begins_with line chip_word ≡ false
      go true e = absurd (other _ (begins_front line chip_word e))
      go false e = e

-- what is found is an identifier
pub found_good : (answer : Result Found Trouble) → is_ok answer ≡ is_good (said answer)
found_good (Ok (Sticker identifier)) = refl
found_good (Ok (Chip identifier taken left)) = refl
found_good (Err (Faulty fault)) = refl
found_good (Err (NotHex offset)) = refl
found_good (Err Long) = refl
