-- What holds along every run from a good founding.
use Rattle.std.proofs.Common.{◌≡◌, ℕ, ◌≤◌, true, false, nat_le, List, [], ◌∷◌, ◌++◌, length, Some, None, Option, unwrap_or, refl, sym, ap, ◌∙◌, subst, arith}
use Rattle.std.specs.List.{cons_option, list_any, AllByRecursion}
use Rattle.std.proofs.lemmas.Bool.{leb-true, le-leb, and_from}
use Rattle.std.proofs.lemmas.Option.{none-some, same_Some}
use Rattle.std.proofs.lemmas.List.{append-nil, append_assoc}
use Rattle.std.proofs.lemmas.List.Sums.{count_by-le-length, sum_by-cons}
use Rattle.oid.specs.Arcs.{arc_limit, is_arc}
use Rattle.oid.specs.Tree.{is_identifier}
use Rattle.book.specs.Book.{Entry, Book, same, is_at, found, children}
use Rattle.book.specs.Left.{used}
use Rattle.book.specs.Calls.{Call}
use Rattle.book.specs.Rulings.{Ruling, refuses, enters, turns, tells, book_after}
use Rattle.book.specs.Questions.{Rules, ruling, after, after_all}
use Rattle.book.specs.Ranges.{most_quota}
use Rattle.book.specs.Founding.{Founding, founding_refusal, root_entry, book_unless, founded}
use Rattle.book.specs.Runs.{Sent, Back, Lines, Recovers, made_by, back_at, after_made, Exchange, Serves, Runs, book_at_end}
use Rattle.book.specs.Given.{Gift, gift_in, decline_in, gifts, declines}
use Rattle.book.specs.Law.{ByRule}
use Rattle.book.proofs.Room.{RoomAlong}
use Rattle.book.proofs.Rows.{chosen, found_identifier, found_all}
use Rattle.book.proofs.Shares.{share, used_is}
use Rattle.book.proofs.Sound.{Sound, root_takes_nothing, is_declined_at}
use Rattle.book.proofs.Entering.{enters_sound}
use Rattle.book.proofs.Turning.{turns_sound}
use Rattle.book.proofs.Changes.{is_declined}
use Rattle.book.proofs.Ruled.{Says, ruling_says}
use Rattle.book.proofs.Counting.{makes_room}
use Rattle.book.proofs.Telling.{gift_of, ended_of, Tells, sent_tells}
use Rattle.book.proofs.Identified.{entered_parent}

sound_at : (founding : Founding) {book after : Book} {before gifts : List Gift} {declined ends : List (List ℕ)}
    → book ≡ after → before ≡ gifts → declined ≡ ends → Sound founding book before declined → Sound founding after gifts ends
sound_at founding {book} {after} {before} {gifts} {declined} {ends} book_is gifts_are ends_are sound =
    subst (λ book. Sound founding book gifts ends) book_is
    (subst (λ gifts. Sound founding book gifts ends) gifts_are (subst (Sound founding book before) ends_are sound))

-- At a book of which all holds:
module _ (founding : Founding) (rules : Rules) (book : Book) (before : List Gift) (declined : List (List ℕ)) (sound : Sound founding book before declined) where
  none_sound : Sound founding book (before ++ []) (declined ++ [])
  none_sound = sound_at founding refl (sym (append-nil before)) (sym (append-nil declined)) sound

  -- what a ruling leaves keeps all of it, with what it gave and what it declined
  ruled_sound : (call : Call) (r : Ruling) → Says rules book call r
      → Sound founding (book_after r book) (before ++ cons_option (gift_of r) []) (declined ++ cons_option (ended_of r) [])
  ruled_sound call (refuses refusal) says = none_sound
  ruled_sound call (tells answer) says = none_sound
  ruled_sound call (enters entry) says =
      sound_at founding refl refl (sym (append-nil declined)) (enters_sound founding book before declined sound rules call entry says)
  ruled_sound call (turns t kind answer) says =
      sound_at founding refl (sym (append-nil before)) refl (turns_sound founding book before declined sound call t kind answer says)

  -- an exchange keeps all of it
  exchange_sound : (lines : Lines) → Recovers lines → (exchange : Exchange) → Serves lines rules book exchange
      → Sound founding exchange.book (before ++ cons_option (gift_in lines exchange.sent exchange.back) [])
      (declined ++ cons_option (decline_in lines exchange.sent exchange.back) [])
  exchange_sound lines recovers exchange served =
      let same = ap (λ back. before ++ cons_option (gift_in lines exchange.sent back) []) served.answered in
      let ends = ap (λ back. declined ++ cons_option (decline_in lines exchange.sent back) []) served.answered in
      sound_at founding (sym served.leaves) (sym same) (sym ends)
      (go (made_by lines exchange.sent) (back_at lines rules book exchange.sent) (sent_tells rules book sound.identified lines recovers exchange.sent))
    where
      go : (made : Option Call) (back : Back) → Tells rules book sound.identified lines exchange.sent made back
          → Sound founding (after_made rules book made) (before ++ cons_option (gift_in lines exchange.sent back) [])
          (declined ++ cons_option (decline_in lines exchange.sent back) [])
      go None back both =
          sound_at founding refl (ap (λ gift. before ++ cons_option gift []) (sym both.0)) (ap (λ end. declined ++ cons_option end []) (sym both.1)) none_sound
      go (Some call) back both =
          sound_at founding refl (ap (λ gift. before ++ cons_option gift []) (sym both.0)) (ap (λ end. declined ++ cons_option end []) (sym both.1))
          (ruled_sound call (ruling rules book call) (ruling_says rules book call))

-- an option more at the end of a list, and more behind it
cons_option_between : {X : Type 0} (xs : List X) (o : Option X) (ys : List X) → (xs ++ cons_option o []) ++ ys ≡ xs ++ cons_option o ys
cons_option_between xs None ys = ap (λ zs. zs ++ ys) (append-nil xs)
cons_option_between xs (Some x) ys = append_assoc xs (x ∷ []) ys

module _ (founding : Founding) (rules : Rules) (lines : Lines) (recovers : Recovers lines) where
  -- what holds of the book at the start holds of it at the end, with all that the run gave and declined
  pub run_sound : (book : Book) (before : List Gift) (declined : List (List ℕ)) (run : List Exchange)
      → Sound founding book before declined → Runs lines rules book run
      → Sound founding (book_at_end book run) (before ++ gifts lines run) (declined ++ declines lines run)
  run_sound book before declined [] sound runs = sound_at founding refl (sym (append-nil before)) (sym (append-nil declined)) sound
  run_sound book before declined (exchange ∷ run) sound runs =
      sound_at founding refl (cons_option_between before _ (gifts lines run)) (cons_option_between declined _ (declines lines run))
      (run_sound exchange.book _ _ run (exchange_sound founding rules book before declined sound lines recovers exchange runs.0) runs.1)

  -- every book has room where somebody has 1 left
  pub run_room : founding.quota ≤ most_quota → (book : Book) (before : List Gift) (declined : List (List ℕ)) (run : List Exchange)
      → Sound founding book before declined → Runs lines rules book run → RoomAlong book run
  run_room quota book before declined [] sound runs = makes_room founding book before declined sound quota
  run_room quota book before declined (exchange ∷ run) sound runs = (
    makes_room founding book before declined sound quota,
    run_room quota exchange.book _ _ run (exchange_sound founding rules book before declined sound lines recovers exchange runs.0) runs.1,
  )

  -- what an exchange gives it gives by the rules
  gift_by_rule : (book : Book) (before : List Gift) (declined : List (List ℕ)) → Sound founding book before declined
      → (call : Call) (r : Ruling) → Says rules book call r → (gift : Gift) → gift_of r ≡ Some gift → ByRule rules gift
  gift_by_rule book before declined sound call (enters entry) says gift e =
      subst (ByRule rules) (same_Some _ _ e) (record {
        arc = says.arc;
        identifier = says.identifier ∙ ap (λ giver. unwrap_or giver [] ++ says.arc ∷ []) (sym (entered_parent book sound.identified rules call entry says));
        by_rule = and_from (is_arc says.arc) _ (le-leb says.arc arc_limit says.asked.within) says.asked.in_set;
      })
  gift_by_rule book before declined sound call (refuses refusal) says gift e = absurd (none-some gift e)
  gift_by_rule book before declined sound call (turns t kind answer) says gift e = absurd (none-some gift e)
  gift_by_rule book before declined sound call (tells answer) says gift e = absurd (none-some gift e)

  given_by_rule : (book : Book) (before : List Gift) (declined : List (List ℕ)) → Sound founding book before declined
      → (sent : Sent) (gift : Gift) → gift_in lines sent (back_at lines rules book sent) ≡ Some gift → ByRule rules gift
  given_by_rule book before declined sound sent gift e = go (made_by lines sent) (sent_tells rules book sound.identified lines recovers sent)
    where
      go : (made : Option Call) → Tells rules book sound.identified lines sent made (back_at lines rules book sent) → ByRule rules gift
      go None both = absurd (none-some gift (sym both.0 ∙ e))
      go (Some call) both = gift_by_rule book before declined sound call (ruling rules book call) (ruling_says rules book call) gift (sym both.0 ∙ e)

  cons_option_all : {X : Type 0} (P : X → Type 0) (o : Option X) (xs : List X) → ((x : X) → o ≡ Some x → P x) → AllByRecursion P xs
      → AllByRecursion P (cons_option o xs)
  cons_option_all P None xs first all = all
  cons_option_all P (Some x) xs first all = (first x refl, all)

  pub run_by_rule : (book : Book) (before : List Gift) (declined : List (List ℕ)) (run : List Exchange)
      → Sound founding book before declined → Runs lines rules book run → AllByRecursion (ByRule rules) (gifts lines run)
  run_by_rule book before declined [] sound runs = tt
  run_by_rule book before declined (exchange ∷ run) sound runs =
      cons_option_all (ByRule rules) _ (gifts lines run)
      (λ gift e. given_by_rule book before declined sound exchange.sent gift (sym (ap (gift_in lines exchange.sent) runs.0.answered) ∙ e))
      (run_by_rule exchange.book _ _ run (exchange_sound founding rules book before declined sound lines recovers exchange runs.0) runs.1)

-- some list of gifts, and one of what was declined, go with a book of which all holds
pub record Holds (founding : Founding) (book : Book) : Type 0 where
  pub gave : List Gift
  pub declined : List (List ℕ)
  pub sound : Sound founding book gave declined

-- what holds of a book holds of it after calls
pub calls_hold : (founding : Founding) (rules : Rules) (book : Book) (calls : List Call) → Holds founding book
    → Holds founding (after_all rules book calls)
calls_hold founding rules book [] holds = holds
calls_hold founding rules book (call ∷ calls) holds =
    calls_hold founding rules (after rules book call) calls (record {
      gave = _;
      declined = _;
      sound = ruled_sound founding rules book holds.gave holds.declined holds.sound call (ruling rules book call) (ruling_says rules book call);
    })

-- a good founding's book
pub good_book : (founding : Founding) → founding_refusal founding ≡ None → founded founding ≡ root_entry founding ∷ []
good_book founding good = ap (λ refusal. book_unless refusal (root_entry founding)) good

pub good_quota : (founding : Founding) → founding_refusal founding ≡ None → founding.quota ≤ most_quota
good_quota founding good =
    chosen (nat_le founding.quota most_quota) _ _ _ good (λ within _. leb-true _ _ within) (λ _ refused. absurd (none-some _ (sym refused)))

-- a good founding has all of it, with nothing given and nothing declined
pub founded_sound : (founding : Founding) → is_identifier founding.root ≡ true → founding_refusal founding ≡ None
    → Sound founding (founded founding) [] []
founded_sound founding identifier good =
    sound_at founding (sym (good_book founding good)) refl refl (record {
      rest = [];
      is = refl;
      apart = λ one. count_by-le-length (is_at one) (root_entry founding ∷ []);
      identified = (identifier, tt);
      long = (omega arith, tt);
      parents = tt;
      within = λ one entry e. omega (arith, only_root one entry e);
      gave = refl;
      ended = λ one. undeclined one;
    })
  where
    -- the root is nobody's child
    only_root : (one : List ℕ) (entry : Entry) → found one (root_entry founding ∷ []) ≡ Some entry → used (children one (root_entry founding ∷ [])) ≡ 0
    only_root one entry e =
        let long : length founding.root ≤ length entry.identifier =
        found_all (λ row. length founding.root ≤ length row.identifier) one (root_entry founding ∷ []) entry (omega arith, tt) e in
        let is = ap length (found_identifier one (root_entry founding ∷ []) entry e) in
        let first = sum_by-cons (share one) (root_entry founding) [] in
        omega (arith, used_is one (root_entry founding ∷ []), first, root_takes_nothing founding one (omega (arith, long, is)))

    undeclined : (one : List ℕ) → list_any (same one) [] ≡ is_declined_at (found one (root_entry founding ∷ []))
    undeclined one = sym (go (found one (root_entry founding ∷ [])) refl)
      where
        go : (there : Option Entry) → found one (root_entry founding ∷ []) ≡ there → is_declined_at there ≡ false
        go None is = refl
        go (Some entry) is = found_all (λ row. is_declined row.kind ≡ false) one (root_entry founding ∷ []) entry (refl, tt) is
