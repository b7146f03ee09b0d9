-- One entry more keeps what holds of the book.
use Rattle.std.proofs.Common.{◌≡◌, ℕ, ◌+◌, ◌-◌, ◌≤◌, true, false, cond, nat_eq, List, [], ◌∷◌, ◌++◌, length, get_or, Some, None, Option, refl, sym, ap, ◌∙◌, subst, arith}
use Rattle.std.specs.List.{count_by, list_any, AllByRecursion}
use Rattle.std.proofs.lemmas.Bool.{both_ways, cond-true, cond-false, or_left, or_right, eq-eqb}
use Rattle.std.proofs.lemmas.Option.{none-some, same_Some}
use Rattle.std.proofs.lemmas.List.{length_push, get_or_push, map_push}
use Rattle.std.proofs.lemmas.List.Sums.{sum_by-cons, sum_by_push}
use Rattle.oid.specs.Tree.{is_identifier, parent_of}
use Rattle.book.specs.Book.{Entry, Book, same, is_at, found, is_child, children, arc_of_child, is_taken}
use Rattle.book.specs.Left.{counted, used}
use Rattle.book.specs.Calls.{Call}
use Rattle.book.specs.Questions.{Rules}
use Rattle.book.specs.Founding.{Founding}
use Rattle.book.specs.Given.{Gift}
use Rattle.book.proofs.Identifiers.{same_true, child_true, child_from, parent_of_child}
use Rattle.book.proofs.Rows.{chosen, found_identifier, found_all, found_before, found_behind, found_more, all_push, all_weaker}
use Rattle.book.proofs.Shares.{share, used_is, used_more, sum_none}
use Rattle.book.proofs.Ruled.{Entered, row_gift}
use Rattle.book.proofs.Identified.{giver_long, entered_parent, entered_long, entered_identified}
use Rattle.book.proofs.Sound.{Sound, HasParent, parent_again, is_declined_at, root_takes_nothing, left_is, counted_some}

-- an identifier that is not found has no row
no_row : (identifier : List ℕ) (book : Book) → found identifier book ≡ None → count_by (is_at identifier) book ≡ 0
unfolding found
no_row identifier [] e = refl
no_row identifier (row ∷ rows) e =
    chosen (is_at identifier row) _ _ _ e (λ _ is. absurd (none-some row (sym is)))
    (λ other is. let later = no_row identifier rows is in
    let first = cond-false {A = ℕ} (is_at identifier row) 1 0 other in
    omega (arith, sum_by-cons (λ row. cond (is_at identifier row) 1 0) row rows, later, first))

-- where an identifier of one arc more is found, that arc is taken
taken_if : (o : List ℕ) (arc : ℕ) (book : Book) (entry : Entry) → 2 ≤ length o → found (o ++ arc ∷ []) book ≡ Some entry
    → is_taken arc (children o book) ≡ true
unfolding found children is_taken
taken_if o arc [] entry long e = absurd (none-some entry e)
taken_if o arc (row ∷ rows) entry long e =
    chosen (is_at (o ++ arc ∷ []) row) _ _ _ e
    (λ here _.
    let is : row.identifier ≡ o ++ arc ∷ [] = same_true _ _ here in
    let child = child_from o row (ap parent_of is ∙ parent_of_child o arc long) in
    let last : arc_of_child row ≡ arc =
    ap (λ identifier. get_or identifier (length identifier - 1) 0) is
    ∙ get_or_push o arc 0 (length (o ++ arc ∷ []) - 1) (omega (arith, length_push o arc)) in
    ap (list_any (λ child. nat_eq (arc_of_child child) arc)) (cond-true _ _ _ child) ∙ or_left _ _ (eq-eqb _ _ last))
    (λ _ is. let later = taken_if o arc rows entry long is in
    chosen (is_child o row) true false _ refl
    (λ child _. ap (list_any (λ child. nat_eq (arc_of_child child) arc)) (cond-true _ _ _ child) ∙ or_right _ _ later)
    (λ other _. ap (list_any (λ child. nat_eq (arc_of_child child) arc)) (cond-false _ _ _ other) ∙ later))

-- At a book of which all holds:
module _ (founding : Founding) (book : Book) (given : List Gift) (declined : List (List ℕ)) (sound : Sound founding book given declined) where
  -- what is not found has no children
  no_children : (identifier : List ℕ) → found identifier book ≡ None → length founding.root ≤ length identifier
      → used (children identifier book) ≡ 0
  no_children identifier none long =
      used_is identifier book
      ∙ sum_none (share identifier) book (subst (AllByRecursion (λ row. share identifier row ≡ 0)) (sym sound.is)
      (root_takes_nothing founding identifier long, all_weaker (HasParent book) (λ row. share identifier row ≡ 0) sound.rest childless sound.parents))
    where
      childless : (row : Entry) → HasParent book row → share identifier row ≡ 0
      childless row p =
          chosen (is_child identifier row) true false _ refl
          (λ child _.
          let parent : p.parent ≡ identifier = same_Some _ _ (sym p.is ∙ child_true identifier row child) in
          absurd (none-some p.authority (sym none ∙ (ap (λ identifier. found identifier book) (sym parent) ∙ p.here))))
          (λ other _. cond-false _ _ _ other)

  module _ (rules : Rules) (call : Call) (entry : Entry) (entered : Entered rules book call entry) where
    giver_is : entered.authority.identifier ≡ entered.o
    giver_is = found_identifier entered.o book entered.authority entered.asked.here

    giver_below : length founding.root ≤ length entered.o
    giver_below =
        let long = found_all (λ row. length founding.root ≤ length row.identifier) entered.o book entered.authority sound.long entered.asked.here in
        omega (arith, long, ap length giver_is)

    parent_is : parent_of entry.identifier ≡ Some entered.o
    parent_is = entered_parent book sound.identified rules call entry entered

    entry_long : length entry.identifier ≡ length entered.o + 1
    entry_long = entered_long book sound.identified rules call entry entered

    -- a new entry's identifier was not in the book
    is_new : found entry.identifier book ≡ None
    is_new = go (found entry.identifier book) refl
      where
        go : (there : Option Entry) → found entry.identifier book ≡ there → there ≡ None
        go None is = refl
        go (Some old) is =
            let there = ap (λ identifier. found identifier book) (sym entered.identifier) ∙ is in
            let taken = taken_if entered.o entered.arc book old (giver_long book sound.identified rules call entry entered) there in
            absurd (both_ways _ entered.asked.untaken taken)

    more-apart : (identifier : List ℕ) → count_by (is_at identifier) (book ++ entry ∷ []) ≤ 1
    more-apart identifier =
        let all = sum_by_push (λ row. cond (is_at identifier row) 1 0) book entry in
        chosen (is_at identifier entry) true false _ refl
        (λ here _.
        let none = no_row identifier book (ap (λ identifier. found identifier book) (sym (same_true _ _ here)) ∙ is_new) in
        let last = cond-true {A = ℕ} _ 1 0 here in
        omega (arith, all, none, last))
        (λ other _. let last = cond-false {A = ℕ} _ 1 0 other in omega (arith, all, last, sound.apart identifier))

    more-within : (identifier : List ℕ) (row : Entry) → found identifier (book ++ entry ∷ []) ≡ Some row
        → used (children identifier (book ++ entry ∷ [])) ≤ row.quota
    more-within identifier row e =
        let all = used_more identifier book entry in
        found_more identifier book row entry e
        (λ before. chosen (is_child identifier entry) true false _ refl
        (λ child _.
        let is_o : entered.o ≡ identifier = same_Some _ _ (sym parent_is ∙ child_true identifier entry child) in
        let is_authority : entered.authority ≡ row =
        same_Some _ _ (sym entered.asked.here ∙ (ap (λ identifier. found identifier book) is_o ∙ before)) in
        let used_there : used (children entered.authority.identifier book) ≡ used (children identifier book) =
        ap (λ identifier. used (children identifier book)) (giver_is ∙ is_o) in
        let last = cond-true {A = ℕ} _ (counted entry) 0 child in
        let fits = left_is entered.authority book in
        omega (arith, all, last, entered.asked.enough, fits, used_there, ap (λ entry. entry.quota) is_authority, counted_some entry))
        (λ other _. let last = cond-false {A = ℕ} _ (counted entry) 0 other in omega (arith, all, last, sound.within identifier row before)))
        (λ none here _.
        let is : entry.identifier ≡ identifier = same_true _ _ here in
        let nothing = no_children identifier none (omega (arith, ap length is, entry_long, giver_below)) in
        let not_own : share identifier entry ≡ 0 =
        chosen (is_child identifier entry) true false _ refl
        (λ child _.
        let own : entered.o ≡ identifier = same_Some _ _ (sym parent_is ∙ child_true identifier entry child) in
        absurd (omega (arith, ap length own, ap length is, entry_long)))
        (λ other _. cond-false _ _ _ other) in
        omega (arith, all, nothing, not_own))

    more-ended : (identifier : List ℕ) → list_any (same identifier) declined ≡ is_declined_at (found identifier (book ++ entry ∷ []))
    more-ended identifier = sound.ended identifier ∙ go (found identifier book) refl
      where
        go : (there : Option Entry) → found identifier book ≡ there → is_declined_at there ≡ is_declined_at (found identifier (book ++ entry ∷ []))
        go (Some row) is = ap is_declined_at (sym (found_before identifier book row entry is))
        go None is =
            sym (ap is_declined_at (found_behind identifier book entry is)
            ∙ chosen (is_at identifier entry) true false _ refl
            (λ here _. ap is_declined_at (cond-true _ _ _ here) ∙ entered.undeclined) (λ other _. ap is_declined_at (cond-false _ _ _ other)))

    -- one entry more keeps all of it
    pub enters_sound : Sound founding (book ++ entry ∷ []) (given ++ row_gift entry ∷ []) declined
    enters_sound = record {
      rest = sound.rest ++ entry ∷ [];
      is = ap (λ rows. rows ++ entry ∷ []) sound.is;
      apart = more-apart;
      identified = all_push (λ row. is_identifier row.identifier ≡ true) book entry sound.identified
          (entered_identified book sound.identified rules call entry entered);
      long = all_push (λ row. length founding.root ≤ length row.identifier) book entry sound.long (omega (arith, entry_long, giver_below));
      parents = all_push (HasParent (book ++ entry ∷ [])) sound.rest entry
          (all_weaker (HasParent book) (HasParent (book ++ entry ∷ [])) sound.rest
          (λ row p. parent_again p (found_before p.parent book p.authority entry p.here)) sound.parents)
          (record {
            parent = entered.o;
            authority = entered.authority;
            is = parent_is;
            here = found_before entered.o book entered.authority entry entered.asked.here;
            opened = entered.asked.opened;
            holder = entered.holder;
          });
      within = more-within;
      gave = ap (λ gifts. gifts ++ row_gift entry ∷ []) sound.gave ∙ sym (map_push row_gift sound.rest entry);
      ended = more-ended;
    }
