-- The law over every run, and what holds beneath it.
use Rattle.std.proofs.Common.{◌≡◌, ◌≢◌, ℕ, true, false, List, [], Some, None, Ok, Option, refl, sym, ap, ◌∙◌, subst, arith}
use Rattle.std.specs.List.{All, AllPairs}
use Rattle.std.specs.Option.{option_and_then}
use Rattle.std.proofs.lemmas.Bool.{both_ways}
use Rattle.std.proofs.lemmas.Option.{none-some, same_Some}
use Rattle.std.proofs.lemmas.List.Elements.{All-nil, All-from_recursion}
use Rattle.oid.specs.Tree.{is_identifier, parent_of}
use Rattle.oid.proofs.Tree.{some_arcs}
use Rattle.book.specs.Kinds.{is_authority}
use Rattle.book.specs.Book.{Entry, Book, is_at, found}
use Rattle.book.specs.Left.{told_left}
use Rattle.book.specs.Founding.{Founding, founding_refusal, root_entry, founded}
use Rattle.book.specs.Runs.{by_call, identifier_in, Lines, Recovers, Exchange, Runs}
use Rattle.book.specs.Given.{gifts}
use Rattle.book.specs.Law.{FoundedAlike, Start, at_founding, quota_of, Alike, sent_elsewhere, SameElsewhere, ByRule, Law, EveryRun}
use Rattle.book.specs.Calls.{Call}
use Rattle.book.specs.Rulings.{refused, Ruling, refuses, enters, turns, tells, answer_of}
use Rattle.book.specs.Questions.{Rules, ruling, answer, after_all}
use Rattle.book.specs.Beneath.{GoodFoundings, HasParentsHolder, PanelsHolders, EntriesApart}
use Rattle.book.specs.declared.refusal.Refusal.TheVariants.{BookFull}
use Rattle.book.specs.declared.founding.FoundingRefusal.{FoundingRefusal}
use Rattle.book.proofs.Room.{HasRoom, RoomAlong}
use Rattle.book.proofs.Neighbours.{neighbours}
use Rattle.book.proofs.Ruled.{Says, ruling_says}
use Rattle.book.proofs.Sound.{HasParent}
use Rattle.book.proofs.Along.{run_sound, run_room, run_by_rule, Holds, calls_hold, good_book, good_quota, founded_sound}
use Rattle.book.proofs.Empty.{refused_foundings, refused_book, empty_at_end, empty_gives, empty_roomy}
use Rattle.book.proofs.Counting.{adds_up, makes_room}
use Rattle.book.proofs.Adding.{found_first, told, quotas, once, pairs_apart}
use Rattle.book.proofs.Rows.{chosen, found_none, found_identifier, found_all}

-- neighbours are unfelt where there is room along both runs
unfelt : (lines : Lines) (founding : Founding) (other : Start) → Alike (at_founding founding) other
    → (x : List ℕ) → is_identifier x ≡ true → (run others : List Exchange)
    → Runs lines founding.rules (founded founding) run → Runs lines other.rules other.book others
    → RoomAlong (founded founding) run → (Runs lines other.rules (founded founding) others → RoomAlong (founded founding) others)
    → sent_elsewhere lines x run ≡ sent_elsewhere lines x others → SameElsewhere lines x (founded founding) other.book run others
unfelt lines founding other alike x is_x run others runs others_run room others_room sent =
    let other_run = subst (λ book. Runs lines other.rules book others) (sym alike.book) others_run in
    subst (λ book. SameElsewhere lines x (founded founding) book run others) alike.book
    (neighbours lines founding.rules other.rules (founded founding) x (some_arcs x is_x) alike.panels alike.authorities run others runs other_run
    room (others_room other_run) sent)

-- from a good founding
good_law : (lines : Lines) → Recovers lines → (founding : Founding) → is_identifier founding.root ≡ true → founding_refusal founding ≡ None
    → (run : List Exchange) → Runs lines founding.rules (founded founding) run → Law lines (at_founding founding) run
good_law lines recovers founding identifier good run runs =
    let start = founded_sound founding identifier good in
    let sound = run_sound founding founding.rules lines recovers (founded founding) [] [] run start runs in
    let quota = good_quota founding good in
    record {
      neighbours_unfelt = λ x is_x other alike others others_run sent.
          unfelt lines founding other alike x is_x run others runs others_run
          (run_room founding founding.rules lines recovers quota (founded founding) [] [] run start runs)
          (λ other_run. run_room founding other.rules lines recovers quota (founded founding) [] [] others start other_run) sent;
      given_once = once founding _ _ _ sound;
      given_by_rule = All-from_recursion (ByRule founding.rules) (gifts lines run)
          (run_by_rule founding founding.rules lines recovers (founded founding) [] [] run start runs);
      quotas_told = told founding _ _ _ sound (good_book founding good);
      quotas_add_up = quotas founding _ _ _ sound (good_book founding good);
    }

nobody : (authority : List ℕ) (left : ℕ) → told_left authority [] ≡ Ok left → ⊥
unfolding found
nobody authority left told = cc

no_quota : (founding : Founding) (authority : List ℕ) → quota_of (record { rules = founding.rules; book = []; given_before = [] }) [] authority ≡ None
unfolding found
no_quota founding authority = refl

-- from a refused one
refused_law : (lines : Lines) → Recovers lines → (founding : Founding) (refusal : FoundingRefusal) → founding_refusal founding ≡ Some refusal
    → (run : List Exchange) → Runs lines founding.rules (founded founding) run → Law lines (at_founding founding) run
refused_law lines recovers founding refusal is run runs =
    let start = refused_book founding refusal is in
    let nothing = empty_gives lines founding.rules recovers (founded founding) run start runs in
    record {
      neighbours_unfelt = λ x is_x other alike others others_run sent.
          unfelt lines founding other alike x is_x run others runs others_run
          (empty_roomy lines founding.rules (founded founding) run start runs)
          (λ other_run. empty_roomy lines other.rules (founded founding) others start other_run) sent;
      given_once = subst (AllPairs (λ one other. one.identifier ≢ other.identifier)) (sym nothing)
          (λ first second d before within. absurd (omega (arith, within)));
      given_by_rule = subst (All (ByRule founding.rules)) (sym nothing) (All-nil (ByRule founding.rules));
      quotas_told = λ authority quota e.
          let unfounded = ap (λ book. quota_of (record { rules = founding.rules; book = book; given_before = [] }) [] authority) (sym start) in
          let without = ap (λ gifts. quota_of (at_founding founding) gifts authority) (sym nothing) in
          absurd (none-some quota (sym (no_quota founding authority) ∙ (unfounded ∙ (without ∙ e))));
      quotas_add_up = λ authority left told.
          let none = ap (told_left authority) (empty_at_end lines founding.rules (founded founding) run start runs) in
          absurd (nobody authority left (sym none ∙ told));
    }

pub every_run : EveryRun
every_run lines recovers start begins run runs =
    subst (λ start. Law lines start run) (sym begins.2)
    (go (founding_refusal begins.0) refl (subst (λ start. Runs lines start.rules start.book run) begins.2 runs))
  where
    go : (refusal : Option FoundingRefusal) → founding_refusal begins.0 ≡ refusal → Runs lines begins.0.rules (founded begins.0) run
        → Law lines (at_founding begins.0) run
    go None good runs = good_law lines recovers begins.0 begins.1 good run runs
    go (Some refusal) is runs = refused_law lines recovers begins.0 refusal is run runs

-- a founding's book does not depend on its rules
pub founded_alike : FoundedAlike
founded_alike one other root holder quota panels authorities = record {
  book = λ i. founded (record { root = root i; holder = holder i; quota = quota i; rules = one.rules });
  panels = panels;
  authorities = authorities;
}

-- ---- beneath the law

-- what holds after any calls behind a good founding
good_holds : (founding : Founding) → is_identifier founding.root ≡ true → founding_refusal founding ≡ None
    → (calls : List Call) → Holds founding (after_all founding.rules (founded founding) calls)
good_holds founding identifier good calls =
    calls_hold founding founding.rules (founded founding) calls (record { gave = []; declined = []; sound = founded_sound founding identifier good })

never_full : (rules : Rules) (book : Book) (call : Call) → HasRoom book → answer rules book call ≡ refused BookFull → ⊥
never_full rules book call room = go (ruling rules book call) (ruling_says rules book call)
  where
    go : (r : Ruling) → Says rules book call r → answer_of r ≡ refused BookFull → ⊥
    go (refuses BookFull) says full = omega (arith, room.room says.o says.authority says.here says.opened says.some, says.full)
    go (refuses refusal) says full = cc
    go (enters entry) says full = cc
    go (turns t kind told) says full = says.granted BookFull full
    go (tells told) says full = absurd (none-some says.o (sym (ap (λ told. identifier_in (by_call told)) full) ∙ says.says))

pub good_foundings : GoodFoundings
good_foundings founding identifier good calls =
    let holds = good_holds founding identifier good calls in
    let all = adds_up founding _ holds.gave holds.declined holds.sound in
    let quota = good_quota founding good in
    record {
      adds_up = all;
      few = omega (arith, all, quota);
      never_full = λ call. never_full founding.rules _ call (makes_room founding _ holds.gave holds.declined holds.sound quota);
    }

-- what holds of every book that calls leave behind a founding holds behind a good one, and of the empty book
each_founding : (P : Book → Type 0) (founding : Founding) → is_identifier founding.root ≡ true
    → ((book : Book) → Holds founding book → P book) → P [] → (calls : List Call) → P (after_all founding.rules (founded founding) calls)
each_founding P founding identifier holding empty calls = go (founding_refusal founding) refl
  where
    go : (refusal : Option FoundingRefusal) → founding_refusal founding ≡ refusal → P (after_all founding.rules (founded founding) calls)
    go None good = holding _ (good_holds founding identifier good calls)
    go (Some refusal) is = subst P (sym (refused_foundings founding refusal is calls).0) empty

-- a panel is not the root, so its parent stands in the book, and it has its holder
panel_holder : (founding : Founding) (book : Book) → Holds founding book
    → (identifier : List ℕ) (panel : Entry) → found identifier book ≡ Some panel → is_authority panel.kind ≡ false
    → HasParentsHolder book identifier panel
panel_holder founding book holds identifier panel here is_panel =
    let sound = holds.sound in
    let is = found_identifier identifier book panel here in
    let first = sym (found_first identifier (root_entry founding) sound.rest) ∙ sym (ap (found identifier) sound.is) ∙ here in
    chosen (is_at identifier (root_entry founding)) _ _ _ first
    (λ _ root. absurd (both_ways true (ap (λ entry. is_authority entry.kind) (same_Some _ _ root) ∙ is_panel) refl))
    (λ _ later.
    let p = found_all (HasParent book) identifier sound.rest panel sound.parents later in
    record {
      authority = p.authority;
      parent = ap (option_and_then (λ parent. found parent book)) (ap parent_of (sym is) ∙ p.is) ∙ p.here;
      holder = p.holder is_panel;
    })

pub panels_holders : PanelsHolders
panels_holders founding identifier calls =
    each_founding
    (λ book. (one : List ℕ) (panel : Entry) → found one book ≡ Some panel → is_authority panel.kind ≡ false → HasParentsHolder book one panel)
    founding identifier (panel_holder founding)
    (λ one panel here is_panel. absurd (none-some panel (sym (found_none one) ∙ here))) calls

pub entries_apart : EntriesApart
entries_apart founding identifier calls =
    each_founding (AllPairs (λ one other. one.identifier ≢ other.identifier)) founding identifier
    (λ book holds first second d. pairs_apart book holds.sound.apart first second d)
    (λ first second d before within. absurd (omega (arith, within))) calls
