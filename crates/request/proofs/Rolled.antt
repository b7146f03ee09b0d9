-- The lines of a roll, child by child.
use Rattle.std.proofs.Common.{◌≡◌, ℕ, suc, ◌+◌, Bool, true, false, cond, leb, List, [], ◌∷◌, ◌++◌, length, take, Some, refl, sym, ap, ◌∙◌, append_assoc, ⊎_elim, arith}
use Rattle.std.proofs.lemmas.Bool.{cases_lt, leb-true, leb-false}
use Rattle.std.proofs.lemmas.List.{length-append}
use Rattle.std.proofs.lemmas.Option.{none-some, same_Some}
use Rattle.request.specs.Limits.{least_rest}
use Rattle.request.specs.Answers.{child_line, last_line, roll_lines}
use Rattle.request.specs.Rolls.{child_lines, IsRoll, RollsAreLines}

pub rolls_are_lines : RollsAreLines
unfolding roll_lines
rolls_are_lines page written [] = record {
  count = 0;
  among = omega arith;
  its_lines = refl;
  room = λ h. absurd (omega (arith, h));
  no_more = λ child is. absurd (none-some _ is);
}
rolls_are_lines page written (child ∷ children) =
    go (leb (written + length (child_line child) + least_rest) page) refl (rolls_are_lines page (written + length (child_line child)) children)
  where
    line : List ℕ
    line = child_line child

    go : (v : Bool) → leb (written + length line + least_rest) page ≡ v
        → IsRoll page (written + length line) children (roll_lines page (written + length line) children)
        → IsRoll page written (child ∷ children) (cond v (line ++ roll_lines page (written + length line) children) (last_line (Some child.arc)))
    go false short others = record {
      count = 0;
      among = omega arith;
      its_lines = refl;
      room = λ h. absurd (omega (arith, h));
      no_more = λ next is.
          omega (arith, leb-false (written + length line + least_rest) page short, ap (λ c. length (child_line c)) (same_Some _ _ is));
    }
    go true fits others = record {
      count = suc others.count;
      among = omega (arith, others.among);
      its_lines = ap (λ l. line ++ l) others.its_lines ∙ sym (append_assoc line (child_lines (take others.count children)) _);
      room = λ h.
          ⊎_elim
          (λ some. omega (arith, others.room some, length-append line (child_lines (take others.count children))))
          (λ none.
          let first : others.count ≡ 0 = omega arith in
          let nothing : length (child_lines (take others.count children)) ≡ 0 = ap (λ n. length (child_lines (take n children))) first in
          omega (arith, leb-true (written + length line + least_rest) page fits, nothing, length-append line (child_lines (take others.count children))))
          (cases_lt 0 others.count);
      no_more = λ next is. omega (arith, others.no_more next is, length-append line (child_lines (take others.count children)));
    }
