-- What is true of the Grants that are out stays true: of calls without Grants, and of a collect.
use Rattle.std.proofs.Common.{◌≡◌, ℕ, true, false, List, [], ◌∷◌, ◌++◌, refl, sym, ap, ◌∙◌, subst, arith}
use Rattle.std.proofs.lemmas.Bool.{and_from}
use Rattle.std.proofs.lemmas.List.{length_push}
use Rattle.std.proofs.lemmas.List.Sums.{sum_by_push}
use Rattle.std.proofs.lemmas.List.Folds.{list_all-append}
use Rattle.book.specs.Book.{Book, same}
use Rattle.book.specs.Calls.{Call, collect}
use Rattle.book.specs.Rulings.{refused, collected}
use Rattle.book.specs.Questions.{Rules, answer, after}
use Rattle.book.specs.Grants.{Grant, IsOwn}
use Rattle.book.specs.declared.refusal.Refusal.{Refusal}
use Rattle.book.specs.declared.event.Event.TheVariants.{Collect}
use Rattle.book.proofs.Identifiers.{same_true, apart}
use Rattle.book.proofs.Rows.{chosen}
use Rattle.runs.specs.Hands.{Held, is_for, is_own, is_in_hand, flag, Hands}
use Rattle.runs.proofs.Owned.{own_passes, all_own_after}
use Rattle.runs.proofs.Moves.{Moves, turned_moves}
use Rattle.runs.proofs.Ruled.{of_grants, others_same, collects, collect_refused}

-- a call that no Grant has to do with keeps it
pub others_keep : (rules : Rules) (serial : ℕ) (book : Book) (held : List Held) (call : Call) → of_grants call ≡ false
    → Hands serial book held → Hands serial (after rules book call) held
others_keep rules serial book held call other hands =
    let same = others_same rules book call other in
    record {
      own = all_own_after rules serial book call held hands.own;
      each_once = λ t. hands.each_once t ∙ ap flag (sym (same.each t));
      as_many = hands.as_many ∙ sym same.count;
    }

-- a collect that is refused keeps it
pub refused_keeps : (rules : Rules) (serial : ℕ) (book : Book) (held : List Held) (taker : ℕ) (t : List ℕ) (refusal : Refusal)
    → answer rules book (collect taker t) ≡ refused refusal → Hands serial book held → Hands serial (after rules book (collect taker t)) held
refused_keeps rules serial book held taker t refusal e hands =
    subst (λ book. Hands serial book held) (sym (collect_refused rules book taker t refusal e)) hands

-- what a collect that passes moves
pub collect_moves : (rules : Rules) (book : Book) (taker : ℕ) (t : List ℕ) (holder quota : ℕ)
    → answer rules book (collect taker t) ≡ collected holder quota → Moves t false true book (after rules book (collect taker t))
collect_moves rules book taker t holder quota e =
    let it = collects rules book taker t holder quota e in
    subst (Moves t false true book) (sym it.leaves) (turned_moves t Collect it.kind book it.entry it.here it.next)

-- and one that passes keeps it, with its Grant behind the others
pub collected_keeps : (rules : Rules) (serial : ℕ) (book : Book) (held : List Held) (taker : ℕ) (t : List ℕ) (holder quota : ℕ) (grant : Grant)
    → answer rules book (collect taker t) ≡ collected holder quota → IsOwn serial (after rules book (collect taker t)) t grant
    → Hands serial book held → Hands serial (after rules book (collect taker t)) (held ++ record { identifier = t; grant = grant } ∷ [])
collected_keeps rules serial book held taker t holder quota grant e own hands =
    let later = after rules book (collect taker t) in
    let one : Held = record { identifier = t; grant = grant } in
    let moves = collect_moves rules book taker t holder quota e in
    let passes = own_passes serial later one own in
    record {
      own = list_all-append (is_own serial later) held (one ∷ [])
          ∙ and_from _ _ (all_own_after rules serial book (collect taker t) held hands.own) (and_from _ _ passes refl);
      each_once = λ other.
          let more = sum_by_push (λ one. flag (is_for other one)) held one in
          let before = hands.each_once other in
          chosen (same t other) true false _ refl
          (λ here _.
          let is = same_true t other here in
          let was = ap flag (ap (λ t. is_in_hand t book) (sym is) ∙ moves.was) in
          let now = ap flag (ap (λ t. is_in_hand t later) (sym is) ∙ moves.is) in
          let added = ap flag here in
          omega (arith, more, before, was, now, added))
          (λ different _.
          let stays = ap flag (moves.others other (λ is. apart t other different (sym is))) in
          let added = ap flag different in
          omega (arith, more, before, stays, added));
      as_many = omega (arith, length_push held one, hands.as_many, moves.count);
    }
