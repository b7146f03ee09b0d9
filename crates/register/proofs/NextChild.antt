-- The child with the lowest arc, as one looks for it: child by child.
use Rattle.std.proofs.Common.{◌≡◌, ℕ, ◌<◌, ◌≤◌, Bool, true, false, cond, List, [], ◌∷◌, ◌++◌, slice_get, nat_le, nat_lt, Some, None, Option, refl, sym, ap, ◌∙◌, append-nil, arith}
use Rattle.std.proofs.lemmas.Bool.{cond-true, cond-false, lt-ltb, le-ltb, ltb-true, ltb-false, le-leb, lt-leb, leb-true, leb-false}
use Rattle.std.specs.Option.{option_map_or}
use Rattle.std.proofs.lemmas.List.Elements.{filter-append}
use Rattle.book.specs.Book.{Entry, Book, is_child, children, arc_of_child}
use Rattle.book.specs.Order.{put, in_order, from_arc, next_child}
use Rattle.book.proofs.Rolling.{put_cases}

-- an arc is below that of a child, if there is one
abbrev pub is_lower : ℕ → Option Entry → Bool
is_lower arc child = option_map_or (λ child. nat_lt arc (arc_of_child child)) child true

-- the first of a list whose arc is not below the one given
abbrev first_of : ℕ → List Entry → Option Entry
first_of from listed = slice_get (from_arc from listed) 0

-- one child, if its arc is not below the one given
abbrev only : ℕ → Entry → Option Entry
only from child = cond (nat_le from (arc_of_child child)) (Some child) None

-- of two children, the one with the lower arc; the first, where both have the same
abbrev lower : Option Entry → Option Entry → Option Entry
lower None next = next
lower (Some child) None = Some child
lower (Some child) (Some next) = cond (nat_lt (arc_of_child next) (arc_of_child child)) (Some next) (Some child)

lower_none : (child : Option Entry) → lower child None ≡ child
lower_none None = refl
lower_none (Some child) = refl

lower_first : (child next : Entry) → arc_of_child child ≤ arc_of_child next → lower (Some child) (Some next) ≡ Some child
lower_first child next h = cond-false _ _ _ (le-ltb (arc_of_child next) (arc_of_child child) h)

lower_next : (child next : Entry) → arc_of_child next < arc_of_child child → lower (Some child) (Some next) ≡ Some next
lower_next child next h = cond-true _ _ _ (lt-ltb (arc_of_child next) (arc_of_child child) h)

lower_same : (one other next following : Option Entry) → one ≡ other → next ≡ following → lower one next ≡ lower other following
lower_same one other next following same later = ap (λ child. lower child next) same ∙ ap (lower other) later

lower_lower : (one two three : Option Entry) → lower (lower one two) three ≡ lower one (lower two three)
lower_lower None two three = refl
lower_lower (Some a) None three = refl
lower_lower (Some a) (Some b) None = lower_none _
lower_lower (Some a) (Some b) (Some d) = go (nat_lt (arc_of_child b) (arc_of_child a)) refl (nat_lt (arc_of_child d) (arc_of_child b)) refl
  where
    go : (v : Bool) → nat_lt (arc_of_child b) (arc_of_child a) ≡ v → (w : Bool) → nat_lt (arc_of_child d) (arc_of_child b) ≡ w
        → lower (cond v (Some b) (Some a)) (Some d) ≡ lower (Some a) (cond w (Some d) (Some b))
    go true ba true db = let h = ltb-true _ _ ba in let k = ltb-true _ _ db in lower_next b d k ∙ sym (lower_next a d (omega (arith, h, k)))
    go true ba false db = let h = ltb-true _ _ ba in let k = ltb-false _ _ db in lower_first b d k ∙ sym (lower_next a b h)
    go false ba true db = refl
    go false ba false db =
        let h = ltb-false _ _ ba in let k = ltb-false _ _ db in
        lower_first a d (omega (arith, h, k)) ∙ sym (lower_first a b h)

-- by cases on whether a child's arc is below the one given
by_arc : {P : Type 0} (from : ℕ) (child : Entry) → (from ≤ arc_of_child child → P) → (arc_of_child child < from → P) → P
by_arc {P} from child here out = go (nat_le from (arc_of_child child)) refl
  where
    go : (v : Bool) → nat_le from (arc_of_child child) ≡ v → P
    go true is = here (leb-true _ _ is)
    go false is = out (leb-false _ _ is)

module _ (from : ℕ) (child : Entry) where
  first_here : (others : List Entry) → from ≤ arc_of_child child → first_of from (child ∷ others) ≡ Some child
  first_here others is = ap (λ kept. slice_get kept 0) (cond-true _ _ _ (le-leb _ _ is))

  first_later : (others : List Entry) → arc_of_child child < from → first_of from (child ∷ others) ≡ first_of from others
  first_later others out = ap (λ kept. slice_get kept 0) (cond-false _ _ _ (lt-leb _ _ out))

  only_here : from ≤ arc_of_child child → only from child ≡ Some child
  only_here is = cond-true _ _ _ (le-leb _ _ is)

  only_out : arc_of_child child < from → only from child ≡ None
  only_out out = cond-false _ _ _ (lt-leb _ _ out)

-- put among others, a child is the first, or the same other one is
first_put : (from : ℕ) (child : Entry) (others : List Entry) → first_of from (put child others) ≡ lower (only from child) (first_of from others)
first_put from child [] =
    by_arc from child
    (λ is. first_here from child [] is ∙ sym (lower_same _ _ _ _ (only_here from child is) refl))
    (λ out. first_later from child [] out ∙ sym (lower_same _ _ _ _ (only_out from child out) refl))
first_put from child (next ∷ others) =
    put_cases (λ placed. first_of from placed ≡ lower (only from child) (first_of from (next ∷ others))) child next others
    (λ before.
    by_arc from child
    (λ is. first_here from child (next ∷ others) is
    ∙ sym (lower_same _ _ _ _ (only_here from child is) (first_here from next others (omega (arith, is, before))) ∙ lower_first child next (omega (arith, before))))
    (λ out. first_later from child (next ∷ others) out ∙ sym (lower_same _ _ _ _ (only_out from child out) refl)))
    (λ instead.
    by_arc from child
    (λ is. first_here from child others is
    ∙ sym (lower_same _ _ _ _ (only_here from child is) (first_here from next others (omega (arith, is, instead))) ∙ lower_first child next (omega (arith, instead))))
    (λ out. first_later from child others out
    ∙ sym (lower_same _ _ _ _ (only_out from child out) (first_later from next others (omega (arith, out, instead))))))
    (λ after.
    by_arc from next
    (λ is. first_here from next (put child others) is
    ∙ sym (lower_same _ _ _ _ (only_here from child (omega (arith, is, after))) (first_here from next others is) ∙ lower_next child next after))
    (λ out. first_later from next (put child others) out ∙ first_put from child others
    ∙ sym (lower_same _ _ _ _ refl (first_later from next others out))))

-- and so it is with one child more, behind the others
first_more : (from : ℕ) (listed : List Entry) (child : Entry)
    → first_of from (in_order (listed ++ child ∷ [])) ≡ lower (first_of from (in_order listed)) (only from child)
unfolding in_order
first_more from [] child = first_put from child [] ∙ lower_none (only from child)
first_more from (first ∷ listed) child =
    first_put from first (in_order (listed ++ child ∷ []))
    ∙ ap (lower (only from first)) (first_more from listed child)
    ∙ sym (lower_lower (only from first) (first_of from (in_order listed)) (only from child))
    ∙ ap (λ one. lower one (only from child)) (sym (first_put from first (in_order listed)))

pub first_none : (from : ℕ) (o : List ℕ) → next_child from (children o []) ≡ None
unfolding in_order children
first_none from o = refl

module _ (o : List ℕ) (book : Book) (row : Entry) where
  pub child_more : is_child o row ≡ true → children o (book ++ row ∷ []) ≡ children o book ++ row ∷ []
  unfolding children
  child_more child = filter-append (is_child o) book (row ∷ []) ∙ ap (λ more. children o book ++ more) (cond-true _ _ _ child)

  pub child_apart : is_child o row ≡ false → children o (book ++ row ∷ []) ≡ children o book
  unfolding children
  child_apart apart =
      filter-append (is_child o) book (row ∷ []) ∙ ap (λ more. children o book ++ more) (cond-false _ _ _ apart) ∙ append-nil (children o book)

  module _ (from : ℕ) (lowest : Option Entry) (so_far : lowest ≡ next_child from (children o book)) where
    -- what is no child leaves the lowest; so does a child whose arc is below the one given, or not below the lowest; any other is the lowest now
    pub no_child : is_child o row ≡ false → lowest ≡ next_child from (children o (book ++ row ∷ []))
    no_child apart = so_far ∙ ap (next_child from) (sym (child_apart apart))

    with_child : is_child o row ≡ true → next_child from (children o (book ++ row ∷ [])) ≡ lower lowest (only from row)
    with_child child =
        ap (next_child from) (child_more child) ∙ first_more from (children o book) row
        ∙ ap (λ one. lower one (only from row)) (sym so_far)

    -- by cases on whether it is a child
    unless_child : {P : Type 0} → (is_child o row ≡ true → P) → (is_child o row ≡ false → P) → P
    unless_child {P} child apart = go (is_child o row) refl
      where
        go : (v : Bool) → is_child o row ≡ v → P
        go true is = child is
        go false is = apart is

    pub too_low : arc_of_child row < from → lowest ≡ next_child from (children o (book ++ row ∷ []))
    too_low out = unless_child (λ child. sym (with_child child ∙ ap (lower lowest) (only_out from row out) ∙ lower_none lowest)) no_child

    pub not_lower : from ≤ arc_of_child row → is_lower (arc_of_child row) lowest ≡ false
        → lowest ≡ next_child from (children o (book ++ row ∷ []))
    not_lower is above = unless_child (λ child. sym (with_child child ∙ ap (lower lowest) (only_here from row is) ∙ stays lowest above)) no_child
      where
        stays : (one : Option Entry) → is_lower (arc_of_child row) one ≡ false → lower one (Some row) ≡ one
        stays None e = absurd (cc)
        stays (Some least) e = cond-false _ _ _ e

    pub now_lowest : from ≤ arc_of_child row → is_lower (arc_of_child row) lowest ≡ true → is_child o row ≡ true
        → Some row ≡ next_child from (children o (book ++ row ∷ []))
    now_lowest is below child = sym (with_child child ∙ ap (lower lowest) (only_here from row is) ∙ becomes lowest below)
      where
        becomes : (one : Option Entry) → is_lower (arc_of_child row) one ≡ true → lower one (Some row) ≡ Some row
        becomes None e = refl
        becomes (Some least) e = cond-true _ _ _ e
