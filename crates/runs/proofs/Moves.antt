-- What calls do to what is in hand: an entry that is entered is not, and a change of kind puts one in hand, takes one out, or does neither.
use Rattle.std.proofs.Common.{◌≡◌, ℕ, ◌+◌, Bool, true, false, cond, List, [], ◌∷◌, ◌++◌, Some, None, Option, refl, sym, ap, ◌∙◌, arith}
use Rattle.std.specs.List.{sum_by, count_by}
use Rattle.std.proofs.lemmas.Option.{none-some, same_Some}
use Rattle.std.proofs.lemmas.List.Sums.{sum_by-cons, sum_by_push}
use Rattle.book.specs.Kinds.{next_kind}
use Rattle.book.specs.Book.{Entry, Book, same, is_at, found}
use Rattle.book.specs.Rulings.{turned}
use Rattle.book.specs.declared.kind.Kind.{Kind}
use Rattle.book.specs.declared.kind.Kind.TheVariants.{Panel, Offered, InHand}
use Rattle.book.specs.declared.event.Event.{Event}
use Rattle.book.specs.declared.event.Event.TheVariants.{Accept, Decline, Retire, Collect, AcceptGrant, DeclineGrant}
use Rattle.book.proofs.Identifiers.{same_true, apart}
use Rattle.book.proofs.Rows.{chosen, of_kind, at_or_not, turned_here, turned_behind, found_none, found_before, found_behind, found_turned, found_turned_other}
use Rattle.runs.specs.Hands.{kind_in_hand, in_hand, found_in_hand, is_in_hand, flag}

-- ---- kinds

-- the events that put an entry in hand, and those that take it out
abbrev pub gives_hand : Event → Bool
gives_hand Collect = true
gives_hand event = false

abbrev pub ends_hand : Event → Bool
ends_hand AcceptGrant = true
ends_hand DeclineGrant = true
ends_hand event = false

pub hand_before : (old : Kind) (event : Event) (kind : Kind) → next_kind old event ≡ Some kind → kind_in_hand old ≡ ends_hand event
hand_before Offered Accept kind e = refl
hand_before Offered Decline kind e = refl
hand_before Offered Collect kind e = refl
hand_before InHand AcceptGrant kind e = refl
hand_before InHand DeclineGrant kind e = refl
hand_before Panel Retire kind e = refl
hand_before old event kind e = absurd (none-some kind e)

pub hand_after : (old : Kind) (event : Event) (kind : Kind) → next_kind old event ≡ Some kind → kind_in_hand kind ≡ gives_hand event
hand_after Offered Accept kind e = ap kind_in_hand (same_Some _ _ (sym e))
hand_after Offered Decline kind e = ap kind_in_hand (same_Some _ _ (sym e))
hand_after Offered Collect kind e = ap kind_in_hand (same_Some _ _ (sym e))
hand_after InHand AcceptGrant kind e = ap kind_in_hand (same_Some _ _ (sym e))
hand_after InHand DeclineGrant kind e = ap kind_in_hand (same_Some _ _ (sym e))
hand_after Panel Retire kind e = ap kind_in_hand (same_Some _ _ (sym e))
hand_after old event kind e = absurd (none-some kind e)

-- ---- books

-- what is in hand in one book and in another, where only T may be so in one of them
pub record Moves (t : List ℕ) (before after : Bool) (book later : Book) : Type 0 where
  pub was : is_in_hand t book ≡ before
  pub is : is_in_hand t later ≡ after
  pub others : (other : List ℕ) → (other ≡ t → ⊥) → is_in_hand other later ≡ is_in_hand other book
  pub count : count_by in_hand later + flag before ≡ count_by in_hand book + flag after

-- and where nothing has changed
pub record SameHands (book later : Book) : Type 0 where
  pub each : (t : List ℕ) → is_in_hand t later ≡ is_in_hand t book
  pub count : count_by in_hand later ≡ count_by in_hand book

-- a sum over the rows, with the first row of T of another kind
sum_turned_is : (g : Entry → ℕ) (t : List ℕ) (kind : Kind) (book : Book) (entry : Entry) → found t book ≡ Some entry
    → sum_by g (turned t kind book) + g entry ≡ sum_by g book + g (of_kind kind entry)
sum_turned_is g t kind [] entry there = absurd (none-some entry (sym (found_none t) ∙ there))
sum_turned_is g t kind (row ∷ rows) entry there =
    at_or_not t row
    (λ here.
    let is = turned_here t kind row rows here in
    let same : row ≡ entry = same_Some _ _ (sym is.1 ∙ there) in
    omega (arith, ap (sum_by g) is.0, sum_by-cons g (of_kind kind row) rows, sum_by-cons g row rows, ap g same, ap (λ row. g (of_kind kind row)) same))
    (λ behind.
    let is = turned_behind t kind row rows behind in
    let later = sum_turned_is g t kind rows entry (sym is.1 ∙ there) in
    omega (arith, ap (sum_by g) is.0, sum_by-cons g row (turned t kind rows), sum_by-cons g row rows, later))

pub turned_moves : (t : List ℕ) (event : Event) (kind : Kind) (book : Book) (entry : Entry) → found t book ≡ Some entry
    → next_kind entry.kind event ≡ Some kind → Moves t (ends_hand event) (gives_hand event) book (turned t kind book)
turned_moves t event kind book entry there next =
    let before = hand_before entry.kind event kind next in
    let after = hand_after entry.kind event kind next in
    let sum = sum_turned_is (λ entry. flag (in_hand entry)) t kind book entry there in
    record {
      was = ap found_in_hand there ∙ before;
      is = ap found_in_hand (found_turned t kind book entry there) ∙ after;
      others = λ other different. ap found_in_hand (found_turned_other other t kind book different);
      count = omega (arith, sum, ap flag before, ap flag after);
    }

-- a change that puts nothing in hand and takes nothing out
pub moves_nothing : (t : List ℕ) {before after : Bool} (book later : Book) → before ≡ false → after ≡ false → Moves t before after book later
    → SameHands book later
moves_nothing t book later none still moves = record {
  each = λ other.
      chosen (same other t) true false _ refl
      (λ here _.
      let is = same_true other t here in
      ap (λ t. is_in_hand t later) is ∙ moves.is ∙ still ∙ sym (ap (λ t. is_in_hand t book) is ∙ moves.was ∙ none))
      (λ different _. moves.others other (apart other t different));
  count =
      let out = ap flag none in
      let still_out = ap flag still in
      omega (arith, moves.count, out, still_out);
}

-- one entry more, that is not in hand
pub entered_moves : (book : Book) (entry : Entry) → in_hand entry ≡ false → SameHands book (book ++ entry ∷ [])
entered_moves book entry out = record {
  each = λ t. go t (found t book) refl;
  count =
      let none = ap flag out in
      omega (arith, sum_by_push (λ entry. flag (in_hand entry)) book entry, none);
}
  where
    new : (v : Bool) → found_in_hand (cond v (Some entry) None) ≡ false
    new true = out
    new false = refl

    go : (t : List ℕ) (there : Option Entry) → found t book ≡ there → is_in_hand t (book ++ entry ∷ []) ≡ is_in_hand t book
    go t (Some old) is = ap found_in_hand (found_before t book old entry is ∙ sym is)
    go t None is = ap found_in_hand (found_behind t book entry is) ∙ new (is_at t entry) ∙ sym (ap found_in_hand is)
