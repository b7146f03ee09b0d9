-- Rows of a book: what is found, one entry more, and one entry of another kind.
use Rattle.std.proofs.Common.{◌≡◌, ℕ, ◌≤◌, Bool, true, false, cond, List, [], ◌∷◌, ◌++◌, map, Some, None, Option, refl, sym, ap, ◌∙◌, subst, arith}
use Rattle.std.specs.List.{sum_by, AllByRecursion}
use Rattle.std.proofs.lemmas.Bool.{cond-true, cond-false}
use Rattle.std.proofs.lemmas.Option.{none-some, same_Some}
use Rattle.std.proofs.lemmas.List.Sums.{sum_by-cons}
use Rattle.book.specs.Book.{Entry, Book, is_at, found}
use Rattle.book.specs.Rulings.{turned}
use Rattle.book.specs.declared.kind.Kind.{Kind}
use Rattle.book.proofs.Identifiers.{same_true}

-- by cases on the test that chose
pub chosen : {A P : Type 0} (v : Bool) (x y z : A) → cond v x y ≡ z → (v ≡ true → x ≡ z → P) → (v ≡ false → y ≡ z → P) → P
chosen true x y z e yes_so no_so = yes_so refl e
chosen false x y z e yes_so no_so = no_so refl e

-- what is found has the identifier that was looked for
found_at : (identifier : List ℕ) (book : Book) (entry : Entry) → found identifier book ≡ Some entry → is_at identifier entry ≡ true
unfolding found
found_at identifier [] entry e = absurd (none-some entry e)
found_at identifier (row ∷ rows) entry e =
    chosen (is_at identifier row) _ _ _ e (λ here is. subst (λ entry. is_at identifier entry ≡ true) (same_Some row entry is) here)
    (λ _ is. found_at identifier rows entry is)

pub found_identifier : (identifier : List ℕ) (book : Book) (entry : Entry) → found identifier book ≡ Some entry → entry.identifier ≡ identifier
found_identifier identifier book entry e = same_true entry.identifier identifier (found_at identifier book entry e)

-- what holds of each row holds of what is found
pub found_all : (P : Entry → Type 0) (identifier : List ℕ) (book : Book) (entry : Entry) → AllByRecursion P book
    → found identifier book ≡ Some entry → P entry
unfolding found
found_all P identifier [] entry all e = absurd (none-some entry e)
found_all P identifier (row ∷ rows) entry all e =
    chosen (is_at identifier row) _ _ _ e (λ _ is. subst P (same_Some row entry is) all.0) (λ _ is. found_all P identifier rows entry all.1 is)

-- one entry more
pub found_before : (identifier : List ℕ) (book : Book) (entry more : Entry) → found identifier book ≡ Some entry
    → found identifier (book ++ more ∷ []) ≡ Some entry
unfolding found
found_before identifier [] entry more e = absurd (none-some entry e)
found_before identifier (row ∷ rows) entry more e =
    chosen (is_at identifier row) _ _ _ e (λ here is. cond-true _ _ _ here ∙ is)
    (λ apart is. cond-false _ _ _ apart ∙ found_before identifier rows entry more is)

pub found_behind : (identifier : List ℕ) (book : Book) (more : Entry) → found identifier book ≡ None
    → found identifier (book ++ more ∷ []) ≡ cond (is_at identifier more) (Some more) None
unfolding found
found_behind identifier [] more e = refl
found_behind identifier (row ∷ rows) more e =
    chosen (is_at identifier row) _ _ _ e (λ here is. absurd (none-some row (sym is)))
    (λ apart is. cond-false _ _ _ apart ∙ found_behind identifier rows more is)

-- whoever is found with one entry more was found before, or is it
pub found_more : {P : Type 0} (identifier : List ℕ) (book : Book) (entry more : Entry) → found identifier (book ++ more ∷ []) ≡ Some entry
    → (found identifier book ≡ Some entry → P) → (found identifier book ≡ None → is_at identifier more ≡ true → more ≡ entry → P) → P
found_more {P} identifier book entry more e before behind = go (found identifier book) refl
  where
    go : (o : Option Entry) → found identifier book ≡ o → P
    go (Some old) is = before (is ∙ (sym (found_before identifier book old more is) ∙ e))
    go None is =
        chosen (is_at identifier more) _ _ _ (sym (found_behind identifier book more is) ∙ e) (λ here same. behind is here (same_Some more entry same))
        (λ _ same. absurd (none-some entry same))

pub all_push : (P : Entry → Type 0) (rows : List Entry) (more : Entry) → AllByRecursion P rows → P more → AllByRecursion P (rows ++ more ∷ [])
all_push P [] more all last = (last, tt)
all_push P (row ∷ rows) more all last = (all.0, all_push P rows more all.1 last)

-- what holds of each under one condition holds of each under a weaker one
pub all_weaker : {X : Type 0} (P Q : X → Type 0) (xs : List X) → ((x : X) → P x → Q x) → AllByRecursion P xs → AllByRecursion Q xs
all_weaker P Q [] weaker all = tt
all_weaker P Q (x ∷ xs) weaker all = (weaker x all.0, all_weaker P Q xs weaker all.1)

-- what holds of everything holds of each of a list
pub all_of : {X : Type 0} (P : X → Type 0) → ((x : X) → P x) → (xs : List X) → AllByRecursion P xs
all_of P each [] = tt
all_of P each (x ∷ xs) = (each x, all_of P each xs)

pub all_both : {X : Type 0} (P Q R : X → Type 0) (xs : List X) → ((x : X) → P x → Q x → R x)
    → AllByRecursion P xs → AllByRecursion Q xs → AllByRecursion R xs
all_both P Q R [] both ps qs = tt
all_both P Q R (x ∷ xs) both ps qs = (both x ps.0 qs.0, all_both P Q R xs both ps.1 qs.1)

-- one entry of another kind
abbrev pub of_kind : Kind → Entry → Entry
of_kind kind entry = record entry { kind = kind }

-- a row that has the identifier is what is found, and the only one that is changed; and a row that has not is passed over
pub turned_here : (t : List ℕ) (kind : Kind) (row : Entry) (rows : List Entry) → is_at t row ≡ true
    → (turned t kind (row ∷ rows) ≡ of_kind kind row ∷ rows) × (found t (row ∷ rows) ≡ Some row)
unfolding found turned
turned_here t kind row rows here = (cond-true _ _ _ here, cond-true _ _ _ here)

pub turned_behind : (t : List ℕ) (kind : Kind) (row : Entry) (rows : List Entry) → is_at t row ≡ false
    → (turned t kind (row ∷ rows) ≡ row ∷ turned t kind rows) × (found t (row ∷ rows) ≡ found t rows)
unfolding found turned
turned_behind t kind row rows apart = (cond-false _ _ _ apart, cond-false _ _ _ apart)

-- by cases on whether a row has the identifier
pub at_or_not : {P : Type 0} (t : List ℕ) (row : Entry) → (is_at t row ≡ true → P) → (is_at t row ≡ false → P) → P
at_or_not t row here apart = chosen (is_at t row) true false _ refl (λ e _. here e) (λ e _. apart e)

pub found_none : (identifier : List ℕ) → found identifier [] ≡ None
unfolding found
found_none identifier = refl

pub turned_none : (t : List ℕ) (kind : Kind) → turned t kind [] ≡ []
unfolding turned
turned_none t kind = refl

-- what is found has the new kind
pub found_turned : (t : List ℕ) (kind : Kind) (book : Book) (entry : Entry) → found t book ≡ Some entry
    → found t (turned t kind book) ≡ Some (of_kind kind entry)
found_turned t kind [] entry e = absurd (none-some entry (sym (found_none t) ∙ e))
found_turned t kind (row ∷ rows) entry e =
    at_or_not t row
    (λ here.
    let is = turned_here t kind row rows here in
    ap (found t) is.0 ∙ (turned_here t kind (of_kind kind row) rows here).1
    ∙ ap (λ entry. Some (of_kind kind entry)) (same_Some row entry (sym is.1 ∙ e)))
    (λ apart.
    let is = turned_behind t kind row rows apart in
    ap (found t) is.0 ∙ (turned_behind t kind row (turned t kind rows) apart).1 ∙ found_turned t kind rows entry (sym is.1 ∙ e))

-- the entries of other identifiers are found as before
pub found_turned_other : (identifier t : List ℕ) (kind : Kind) (book : Book) → (identifier ≡ t → ⊥)
    → found identifier (turned t kind book) ≡ found identifier book
unfolding found
found_turned_other identifier t kind [] other = ap (found identifier) (turned_none t kind)
found_turned_other identifier t kind (row ∷ rows) other =
    at_or_not t row
    (λ here. ap (found identifier) (turned_here t kind row rows here).0
    ∙ at_or_not identifier row (λ also. absurd (other (sym (same_true _ _ also) ∙ same_true _ _ here)))
    (λ apart. cond-false _ _ _ apart ∙ sym (cond-false _ _ _ apart)))
    (λ apart. ap (found identifier) (turned_behind t kind row rows apart).0
    ∙ ap (cond (is_at identifier row) (Some row)) (found_turned_other identifier t kind rows other))

pub all_turned : (P : Entry → Type 0) (t : List ℕ) (kind : Kind) (book : Book)
    → ((entry : Entry) → found t book ≡ Some entry → P entry → P (of_kind kind entry)) → AllByRecursion P book
    → AllByRecursion P (turned t kind book)
all_turned P t kind [] step all = subst (AllByRecursion P) (sym (turned_none t kind)) tt
all_turned P t kind (row ∷ rows) step all =
    at_or_not t row
    (λ here. let is = turned_here t kind row rows here in subst (AllByRecursion P) (sym is.0) (step row is.1 all.0, all.1))
    (λ apart. let is = turned_behind t kind row rows apart in
    subst (AllByRecursion P) (sym is.0) (all.0, all_turned P t kind rows (λ entry e. step entry (is.1 ∙ e)) all.1))

-- what is the same of an entry of either kind is the same of the rows
pub map_turned : {B : Type 0} (f : Entry → B) (t : List ℕ) (kind : Kind) (book : Book)
    → ((entry : Entry) → found t book ≡ Some entry → f (of_kind kind entry) ≡ f entry) → map f (turned t kind book) ≡ map f book
map_turned f t kind [] step = ap (map f) (turned_none t kind)
map_turned f t kind (row ∷ rows) step =
    at_or_not t row
    (λ here. let is = turned_here t kind row rows here in ap (map f) is.0 ∙ ap (λ b. b ∷ map f rows) (step row is.1))
    (λ apart. let is = turned_behind t kind row rows apart in
    ap (map f) is.0 ∙ ap (λ bs. f row ∷ bs) (map_turned f t kind rows (λ entry e. step entry (is.1 ∙ e))))

-- what is no more of an entry of its new kind is no more in all
pub sum_turned : (g : Entry → ℕ) (t : List ℕ) (kind : Kind) (book : Book)
    → ((entry : Entry) → found t book ≡ Some entry → g (of_kind kind entry) ≤ g entry) → sum_by g (turned t kind book) ≤ sum_by g book
sum_turned g t kind [] step = subst (λ rows. sum_by g rows ≤ sum_by g []) (sym (turned_none t kind)) (omega arith)
sum_turned g t kind (row ∷ rows) step =
    at_or_not t row
    (λ here. let is = turned_here t kind row rows here in
    subst (λ all. sum_by g all ≤ sum_by g (row ∷ rows)) (sym is.0)
    (omega (arith, sum_by-cons g row rows, sum_by-cons g (of_kind kind row) rows, step row is.1)))
    (λ apart. let is = turned_behind t kind row rows apart in
    subst (λ all. sum_by g all ≤ sum_by g (row ∷ rows)) (sym is.0)
    (omega (arith, sum_by-cons g row rows, sum_by-cons g row (turned t kind rows), sum_turned g t kind rows (λ entry e. step entry (is.1 ∙ e)))))
