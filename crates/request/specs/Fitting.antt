-- Answers fit on the least page.
use Rattle.std.specs.Prelude.{ℕ, ◌≡◌, ◌+◌, ◌<◌, ◌≤◌, ◌^◌, true, List, length, Option}
use Rattle.std.specs.List.{list_all}
use Rattle.std.specs.Option.{ForSome}
use Rattle.oid.specs.Arcs.{is_arc}
use Rattle.oid.specs.Tree.{is_identifier}
use Rattle.request.specs.Limits.{least_page, least_rest, has_room}
use Rattle.request.specs.Answers.{ok_line, no_line, last_line, roll_bytes}
use Rattle.request.specs.declared.child.Child.{Child}
use Rattle.request.specs.declared.refusal.Fault.{Fault}

-- On the least page that is answered on, each first line leaves as many bytes as remain after each child's line of a roll. In so many bytes
-- fits each line that ends a roll. So a first line and a last line fit together.
pub record LinesFit : Type 0 where
  pub yes_fits : (arcs : List ℕ) → is_identifier arcs ≡ true → length (ok_line arcs) + least_rest ≤ least_page
  pub no_fits : (fault : Fault) → fault.offset < 2 ^ 64 → length (no_line fault) + least_rest ≤ least_page
  pub last_fits : (next : Option ℕ) → ForSome next (λ arc. is_arc arc ≡ true) → length (last_line next) ≤ least_rest
  pub both_fit : (arcs : List ℕ) (next : Option ℕ) → is_identifier arcs ≡ true → ForSome next (λ arc. is_arc arc ≡ true)
      → length (ok_line arcs) + length (last_line next) ≤ least_page

-- A roll fits on each page that is long enough for answers.
abbrev pub RollsFit : Type 0
RollsFit = (page_length : ℕ) (arcs : List ℕ) (children : List Child) → has_room page_length ≡ true → is_identifier arcs ≡ true
    → list_all (λ child. is_arc child.arc) children ≡ true → length (roll_bytes page_length arcs children) ≤ page_length
