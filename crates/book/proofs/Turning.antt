-- A change of kind keeps what holds of the book.
use Rattle.std.proofs.Common.{◌≡◌, ℕ, ◌≤◌, Bool, true, false, cond, ◌&&◌, ◌||◌, List, [], ◌∷◌, ◌++◌, length, Some, None, unwrap_or, refl, sym, ap, ◌∙◌, subst, arith}
use Rattle.std.specs.List.{list_any, cons_option}
use Rattle.std.proofs.lemmas.Bool.{both_ways, cond-true, cond-false, false_from_ne_true, and_right}
use Rattle.std.proofs.lemmas.Option.{same_Some}
use Rattle.std.proofs.lemmas.List.Folds.{list_any-append}
use Rattle.oid.specs.Tree.{is_identifier, parent_of}
use Rattle.book.specs.Kinds.{is_open, is_authority}
use Rattle.book.specs.Book.{Entry, Book, same, is_at, found, is_child, children}
use Rattle.book.specs.Left.{counted, used}
use Rattle.book.specs.Calls.{Call}
use Rattle.book.specs.Rulings.{turned, Answer}
use Rattle.book.specs.Founding.{Founding, root_entry}
use Rattle.book.specs.Given.{Gift}
use Rattle.book.specs.declared.kind.Kind.{Kind}
use Rattle.book.proofs.Identifiers.{and_true, same_true, apart}
use Rattle.book.proofs.Rows.{chosen, all_weaker, of_kind, found_turned, found_turned_other, turned_here, turned_behind, all_turned, map_turned, sum_turned}
use Rattle.book.proofs.Shares.{share, used_is}
use Rattle.book.proofs.Changes.{Change, change, is_declined}
use Rattle.book.proofs.Ruled.{Turned, row_gift}
use Rattle.book.proofs.Sound.{Sound, HasParent, parent_again, is_declined_at}

or_false : (v : Bool) → (v || false) ≡ v
or_false true = refl
or_false false = refl

any_new : (identifier t : List ℕ) (v : Bool) → list_any (same identifier) (cons_option (cond v (Some t) None) []) ≡ (v && same identifier t)
any_new identifier t true = or_false (same identifier t)
any_new identifier t false = refl

-- At a book of which all holds:
module _ (founding : Founding) (book : Book) (given : List Gift) (declined : List (List ℕ)) (sound : Sound founding book given declined) where
  module _ (call : Call) (t : List ℕ) (kind : Kind) (answer : Answer) (it : Turned book call t kind answer) where
    changed : Change it.entry.kind it.event kind
    changed = change it.entry.kind it.event kind it.next

    -- what is found at T is the entry whose kind is changed
    is_it : (entry : Entry) → found t book ≡ Some entry → it.entry ≡ entry
    is_it entry e = same_Some _ _ (sym it.here ∙ e)

    -- what is open is not T
    open_apart : (identifier : List ℕ) (entry : Entry) → found identifier book ≡ Some entry → is_open entry.kind ≡ true → identifier ≡ t → ⊥
    open_apart identifier entry e opened same =
        let is = is_it entry (ap (λ identifier. found identifier book) (sym same) ∙ e) in
        both_ways (is_open entry.kind) (ap (λ entry. is_open entry.kind) (sym is) ∙ changed.shut) opened

    root_is_other : is_at t (root_entry founding) ≡ false
    root_is_other =
        false_from_ne_true (is_at t (root_entry founding)) (λ here.
        let is = turned_here t kind (root_entry founding) sound.rest here in
        open_apart t (root_entry founding) (ap (found t) sound.is ∙ is.1) refl refl)

    root_stays : turned t kind book ≡ root_entry founding ∷ turned t kind sound.rest
    root_stays = ap (turned t kind) sound.is ∙ (turned_behind t kind (root_entry founding) sound.rest root_is_other).0

    rest_found : (entry : Entry) → found t sound.rest ≡ Some entry → it.entry ≡ entry
    rest_found entry e =
        is_it entry (ap (found t) sound.is ∙ (turned_behind t kind (root_entry founding) sound.rest root_is_other).1 ∙ e)

    parent_stays : (row : Entry) → HasParent book row → HasParent (turned t kind book) row
    parent_stays row p =
        parent_again p (found_turned_other p.parent t kind book (open_apart p.parent p.authority p.here p.opened) ∙ p.here)

    turned_has_parent : (entry : Entry) → found t sound.rest ≡ Some entry → HasParent (turned t kind book) entry
        → HasParent (turned t kind book) (of_kind kind entry)
    turned_has_parent entry e p = record {
      parent = p.parent;
      authority = p.authority;
      is = p.is;
      here = p.here;
      opened = p.opened;
      holder = λ panel. p.holder (ap (λ entry. is_authority entry.kind) (sym (rest_found entry e)) ∙ sym changed.authority ∙ panel);
    }

    -- an entry of another kind has used up no more of any quota
    share_falls : (parent : List ℕ) (entry : Entry) → found t book ≡ Some entry → share parent (of_kind kind entry) ≤ share parent entry
    share_falls parent entry e = subst (λ entry. share parent (of_kind kind entry) ≤ share parent entry) (is_it entry e) falls
      where
        falls : share parent (of_kind kind it.entry) ≤ share parent it.entry
        falls =
            let holds = changed.holds it.entry.quota in
            chosen (is_child parent it.entry) true false _ refl
            (λ child _.
            let old = cond-true {A = ℕ} _ (counted it.entry) 0 child in
            let new = cond-true {A = ℕ} _ (counted (of_kind kind it.entry)) 0 child in
            omega (arith, old, new, holds))
            (λ other _.
            let new = cond-false {A = ℕ} _ (counted (of_kind kind it.entry)) 0 other in
            omega (arith, new))

    turned_within : (identifier : List ℕ) (row : Entry) → found identifier (turned t kind book) ≡ Some row
        → used (children identifier (turned t kind book)) ≤ row.quota
    turned_within identifier row e =
        let falls = sum_turned (share identifier) t kind book (share_falls identifier) in
        chosen (same identifier t) true false _ refl
        (λ own _.
        let here = ap (λ identifier. found identifier (turned t kind book)) (same_true identifier t own) in
        let is : of_kind kind it.entry ≡ row = same_Some _ _ (sym (found_turned t kind book it.entry it.here) ∙ (sym here ∙ e)) in
        let old = sound.within identifier it.entry (ap (λ identifier. found identifier book) (same_true identifier t own) ∙ it.here) in
        omega (arith, falls, used_is identifier book, used_is identifier (turned t kind book), old, ap (λ entry. entry.quota) is))
        (λ other _.
        let old = sound.within identifier row (sym (found_turned_other identifier t kind book (apart identifier t other)) ∙ e) in
        omega (arith, falls, used_is identifier book, used_is identifier (turned t kind book), old))

    turned_ended : (identifier : List ℕ)
        → list_any (same identifier) (declined ++ cons_option (cond (is_declined kind) (Some t) None) [])
        ≡ is_declined_at (found identifier (turned t kind book))
    turned_ended identifier =
        list_any-append (same identifier) declined _
        ∙ ap (λ v. v || list_any (same identifier) (cons_option (cond (is_declined kind) (Some t) None) [])) (sound.ended identifier)
        ∙ ap (λ v. is_declined_at (found identifier book) || v) (any_new identifier t (is_declined kind))
        ∙ chosen (same identifier t) true false _ refl
        (λ own _.
        let is : identifier ≡ t = same_true identifier t own in
        let old : is_declined_at (found identifier book) ≡ false =
        ap (λ identifier. is_declined_at (found identifier book)) is ∙ (ap is_declined_at it.here ∙ changed.undeclined) in
        ap (λ v. v || (is_declined kind && same identifier t)) old ∙ ap (λ v. is_declined kind && v) own ∙ and_true (is_declined kind)
        ∙ sym (ap (λ identifier. is_declined_at (found identifier (turned t kind book))) is ∙ ap is_declined_at (found_turned t kind book it.entry it.here)))
        (λ other _.
        ap (λ v. is_declined_at (found identifier book) || v) (and_right (is_declined kind) _ other) ∙ or_false _
        ∙ sym (ap is_declined_at (found_turned_other identifier t kind book (apart identifier t other))))

    -- a change of kind keeps all of it
    pub turns_sound : Sound founding (turned t kind book) given (declined ++ cons_option (cond (is_declined kind) (Some t) None) [])
    turns_sound = record {
      rest = turned t kind sound.rest;
      is = root_stays;
      apart = λ identifier.
          let falls = sum_turned (λ row. cond (is_at identifier row) 1 0) t kind book (λ entry _. omega arith) in
          omega (arith, falls, sound.apart identifier);
      identified = all_turned (λ row. is_identifier row.identifier ≡ true) t kind book (λ _ _ is. is) sound.identified;
      long = all_turned (λ row. length founding.root ≤ length row.identifier) t kind book (λ _ _ is. is) sound.long;
      parents = all_turned (HasParent (turned t kind book)) t kind sound.rest turned_has_parent
          (all_weaker (HasParent book) (HasParent (turned t kind book)) sound.rest parent_stays sound.parents);
      within = turned_within;
      gave = sound.gave ∙ sym (map_turned row_gift t kind sound.rest (λ entry e.
          ap (λ v. record { giver = unwrap_or (parent_of entry.identifier) []; identifier = entry.identifier; offered = cond v (Some entry.quota) None })
          (changed.authority ∙ ap (λ entry. is_authority entry.kind) (rest_found entry e))));
      ended = turned_ended;
    }
