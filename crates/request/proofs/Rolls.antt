-- A roll fits on each page that is long enough for answers.
use Rattle.std.proofs.Common.{◌≡◌, ℕ, ◌+◌, ◌≤◌, Bool, true, false, cond, leb, List, [], ◌∷◌, ◌++◌, length, Some, None, refl, ap, sym, ◌∙◌, arith}
use Rattle.std.specs.List.{list_all}
use Rattle.std.proofs.lemmas.Bool.{and_parts, leb-true}
use Rattle.std.proofs.lemmas.List.{length-append}
use Rattle.std.proofs.lemmas.Option.{none-some, same_Some}
use Rattle.oid.specs.Arcs.{is_arc}
use Rattle.request.specs.Answers.{ok_line, child_line, last_line, roll_lines}
use Rattle.request.specs.Limits.{least_page, least_rest}
use Rattle.request.specs.Fitting.{RollsFit}
use Rattle.request.specs.declared.child.Child.{Child}
use Rattle.request.proofs.Fitting.{lines_fit}

-- where so many bytes remain as a last line can have, the lines behind them fit
within : (page at : ℕ) (children : List Child) → at + least_rest ≤ page → list_all (λ child. is_arc child.arc) children ≡ true
    → at + length (roll_lines page at children) ≤ page
unfolding roll_lines
within page at [] room arcs = omega (arith, room, lines_fit.last_fits None (λ arc e. absurd (none-some _ e)))
within page at (child ∷ children) room arcs =
    go (leb (at + length (child_line child) + least_rest) page) refl (within page (at + length (child_line child)) children)
  where
    parts : (is_arc child.arc ≡ true) × (list_all (λ c. is_arc c.arc) children ≡ true)
    parts = and_parts (is_arc child.arc) _ arcs

    others : List ℕ
    others = roll_lines page (at + length (child_line child)) children

    go : (v : Bool) → leb (at + length (child_line child) + least_rest) page ≡ v
        → (at + length (child_line child) + least_rest ≤ page → list_all (λ c. is_arc c.arc) children ≡ true → at + length (child_line child) + length others ≤ page)
        → at + length (cond v (child_line child ++ others) (last_line (Some child.arc))) ≤ page
    go true e more = omega (arith, length-append (child_line child) others, more (leb-true _ page e) parts.1)
    go false e more = omega (arith, room, lines_fit.last_fits (Some child.arc) (λ arc e. ap is_arc (sym (same_Some _ _ e)) ∙ parts.0))

-- and so many remain behind the first line
pub rolls_fit : RollsFit
rolls_fit page arcs children room named all =
    let first = ok_line arcs in
    let lines = roll_lines page (length first) children in
    omega (arith, length-append first lines, within page (length first) children (omega (arith, leb-true least_page page room, lines_fit.yes_fits arcs named)) all)
