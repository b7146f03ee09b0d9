-- The children of an authority in the order of their arcs, one after the other.
use Rattle.std.proofs.Common.{◌≡◌, ℕ, ◌+◌, ◌-◌, ◌<◌, ◌≤◌, true, List, [], ◌∷◌, length, get_or, slice_get, nat_le, Some, None, Option, refl, sym, ap, ◌∙◌, subst, arith}
use Rattle.std.specs.Prelude.{All}
use Rattle.std.specs.Option.{option_map}
use Rattle.std.proofs.lemmas.Bool.{cond-true, cond-false, cond_both, leb-true, leb-false, le-leb, lt-leb}
use Rattle.std.proofs.lemmas.Option.{cond_some, none-some, same_Some}
use Rattle.std.proofs.lemmas.List.Elements.{All-head, All-tail, All-weaker, All-filter, All-map}
use Rattle.std.proofs.lemmas.List.Sums.{AllPass-from_list_all}
use Rattle.oid.specs.Arcs.{arc_limit, is_arc, next_arc}
use Rattle.oid.specs.Meaning.{arcs_of}
use Rattle.oid.specs.Tree.{all_arcs}
use Rattle.oid.proofs.Tree.{keeps}
use Rattle.book.specs.Book.{Entry, is_child, children, arc_of_child}
use Rattle.book.specs.Order.{in_order, from_arc, next_child}
use Rattle.book.proofs.Rolling.{Earlier, Ascending, all_in_order, ascending_in_order}
use Rattle.register.specs.Kept.{entry_of, book_in}
use Rattle.register.specs.Yes.{shown}
use Rattle.register.specs.declared.row.Row.{Row}

all_from : (from : ℕ) (listed : List Entry) → All (λ child. from ≤ arc_of_child child) listed → from_arc from listed ≡ listed
all_from from [] above = refl
all_from from (child ∷ others) above =
    cond-true (nat_le from (arc_of_child child)) _ _ (le-leb _ _ (All-head (λ child. from ≤ arc_of_child child) child others above))
    ∙ ap (λ later. child ∷ later) (all_from from others (All-tail (λ child. from ≤ arc_of_child child) child others above))

none_from : (from : ℕ) (listed : List Entry) → All (λ child. arc_of_child child < from) listed → from_arc from listed ≡ []
none_from from [] below = refl
none_from from (child ∷ others) below =
    cond-false (nat_le from (arc_of_child child)) _ _ (lt-leb _ _ (All-head (λ child. arc_of_child child < from) child others below))
    ∙ none_from from others (All-tail (λ child. arc_of_child child < from) child others below)

later_from : (from : ℕ) (child : Entry) (others : List Entry) → arc_of_child child < from → from_arc from (child ∷ others) ≡ from_arc from others
later_from from child others below = cond-false (nat_le from (arc_of_child child)) _ _ (lt-leb _ _ below)

-- where there is a first child from an arc upwards, the others are those from the arc above it
first_from : (asked : ℕ) (children : List Entry) → Ascending children → (first : Entry) → slice_get (from_arc asked children) 0 ≡ Some first
    → (asked ≤ arc_of_child first) × (from_arc asked children ≡ first ∷ from_arc (arc_of_child first + 1) children)
first_from asked [] rising first = λ is. absurd (none-some first is)
first_from asked (child ∷ others) rising first =
    cond_both (nat_le asked (arc_of_child child)) _ _
    (λ kept. slice_get kept 0 ≡ Some first → (asked ≤ arc_of_child first) × (kept ≡ first ∷ from_arc (arc_of_child first + 1) (child ∷ others)))
    (λ here is.
    let above = leb-true _ _ here in
    let rest = all_from asked others (All-weaker (Earlier child) (λ later. asked ≤ arc_of_child later) (λ later h. omega (arith, above, h)) others rising.0) in
    let further =
    later_from (arc_of_child child + 1) child others (omega arith)
    ∙ all_from (arc_of_child child + 1) others (All-weaker (Earlier child) (λ later. arc_of_child child + 1 ≤ arc_of_child later) (λ later h. omega (arith, h)) others rising.0) in
    subst (λ one. (asked ≤ arc_of_child one) × (child ∷ from_arc asked others ≡ one ∷ from_arc (arc_of_child one + 1) (child ∷ others)))
    (same_Some _ _ is) (above, ap (λ later. child ∷ later) (rest ∙ sym further)))
    (λ out is.
    let later = first_from asked others rising.1 first is in
    (later.0, later.1 ∙ ap (λ rest. first ∷ rest) (sym (later_from (arc_of_child first + 1) child others (omega (arith, leb-false _ _ out, later.0))))))

none_first : {X : Type 0} (list : List X) → slice_get list 0 ≡ None → list ≡ []
none_first [] is = refl
none_first (first ∷ rest) is = absurd (none-some first (sym is))

largest : (arc : ℕ) → next_arc arc ≡ None → arc_limit < arc + 1
largest arc =
    cond_both (is_arc (arc + 1)) _ _ (λ next. next ≡ None → arc_limit < arc + 1)
    (λ is last. absurd (none-some (arc + 1) (sym last))) (λ is last. leb-false _ _ is)

-- the last of a row's arcs is an arc
row_arc : (row : Row) → is_arc (arc_of_child (entry_of row)) ≡ true
unfolding all_arcs
row_arc row =
    let arcs = arcs_of row.identifier in
    let rule = keeps arcs row.identifier.rule in
    AllPass-from_list_all is_arc arcs rule.each (length arcs - 1) 0 (omega (arith, rule.long))

-- the next arc is the one above, and an arc
pub next_is : (arc next : ℕ) → next_arc arc ≡ Some next → (arc + 1 ≡ next) × (next ≤ arc_limit)
next_is arc next is =
    let told = cond_some (is_arc (arc + 1)) (arc + 1) next is in
    (told.1, omega (arith, leb-true _ _ told.0, told.1))

module _ (rows : List Row) (authority : List ℕ) where
  abbrev siblings : List Entry
  siblings = children authority (book_in rows)

  -- what is found of the children from an arc upwards
  module _ (asked : ℕ) (found : Option Row) (is : option_map entry_of found ≡ next_child asked siblings) where
    pub no_more : found ≡ None → shown (book_in rows) authority asked ≡ []
    no_more none = none_first (from_arc asked (in_order siblings)) (sym is ∙ ap (option_map entry_of) none)

    pub one_more : (row : Row) → found ≡ Some row
        → (asked ≤ arc_of_child (entry_of row)) × (shown (book_in rows) authority asked ≡ entry_of row ∷ shown (book_in rows) authority (arc_of_child (entry_of row) + 1))
    one_more row there = first_from asked (in_order siblings) (ascending_in_order siblings) (entry_of row) (sym is ∙ ap (option_map entry_of) there)

  abbrev HasArc : Entry → Type 0
  HasArc child = is_arc (arc_of_child child) ≡ true

  arcs_shown : All HasArc (in_order siblings)
  unfolding children
  arcs_shown =
      all_in_order HasArc siblings
      (All-filter (is_child authority) HasArc (book_in rows) (All-map HasArc entry_of rows (λ place default within. row_arc (get_or rows place default))))

  -- there is none above the largest arc
  pub none_above : (arc : ℕ) → next_arc arc ≡ None → shown (book_in rows) authority (arc + 1) ≡ []
  none_above arc last =
      let high = largest arc last in
      none_from (arc + 1) (in_order siblings)
      (All-weaker HasArc (λ child. arc_of_child child < arc + 1) (λ child is. omega (arith, leb-true _ _ is, high)) (in_order siblings) arcs_shown)
