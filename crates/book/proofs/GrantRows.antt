-- A Grant that a collect gives is the register's own, and stays so.
use Rattle.std.proofs.Common.{◌≡◌, ℕ, zero, suc, ◌+◌, ◌<◌, ◌≤◌, true, false, Bool, cond, not, ◌==◌, List, [], ◌∷◌, ◌++◌, length, Some, None, Option, refl, sym, ap, ◌∙◌, subst, arith}
use Rattle.std.specs.Prelude.{position, slice_get}
use Rattle.std.specs.List.{position_or_len}
use Rattle.std.proofs.lemmas.Bool.{cond-true, cond-false, ltb-true, lt-ltb, ne_eqb}
use Rattle.std.proofs.lemmas.Option.{cond_some, none-some, same_Some, slice_get_within, slice_get-get_or, get_or_from_slice_get}
use Rattle.std.proofs.lemmas.List.{get_or_append_left, length_push}
use Rattle.std.proofs.lemmas.List.Folds.{find_at, position_or_len_push}
use Rattle.book.specs.Kinds.{next_kind}
use Rattle.book.specs.Book.{Entry, Book, is_at, found}
use Rattle.book.specs.Calls.{collect}
use Rattle.book.specs.Rulings.{collected, Ruling, refuses, enters, turns, tells, answer_of, book_after, turned, ask, there_is}
use Rattle.book.specs.Questions.{Rules, answer, after, ruling}
use Rattle.book.specs.Grants.{Grant, IsOwn, CollectsGiveOwn, OwnGrantsStay}
use Rattle.book.specs.declared.kind.Kind.{Kind}
use Rattle.book.specs.declared.event.Event.TheVariants.{Collect}
use Rattle.book.specs.declared.refusal.Refusal.TheVariants.{NotInBook, WrongKind, NotHolder}
use Rattle.book.proofs.Rows.{of_kind, turned_here, turned_behind, turned_none, at_or_not}

-- where the first row of an identifier is, a change of kind leaves
first_turned : (t other : List ℕ) (kind : Kind) (book : Book)
    → position_or_len (is_at t) (turned other kind book) ≡ position_or_len (is_at t) book
first_turned t other kind [] = ap (position_or_len (is_at t)) (turned_none other kind)
first_turned t other kind (row ∷ rows) =
    at_or_not other row
    (λ here. ap (position_or_len (is_at t)) (turned_here other kind row rows here).0)
    (λ apart. ap (position_or_len (is_at t)) (turned_behind other kind row rows apart).0
    ∙ ap (λ n. cond (not (is_at t row)) (1 + n) 0) (first_turned t other kind rows))

pub length_turned : (t : List ℕ) (kind : Kind) (book : Book) → length (turned t kind book) ≡ length book
length_turned t kind [] = ap length (turned_none t kind)
length_turned t kind (row ∷ rows) =
    at_or_not t row (λ here. ap length (turned_here t kind row rows here).0)
    (λ apart. ap length (turned_behind t kind row rows apart).0 ∙ ap suc (length_turned t kind rows))

-- an entry in a row with the same holder and quota
record Kept (book : Book) (row : ℕ) (entry : Entry) : Type 0 where
  later : Entry
  stands : slice_get book row ≡ Some later
  holder : later.holder ≡ entry.holder
  quota : later.quota ≡ entry.quota

-- what stands in a row stays there, but for its kind
row_turned : (t : List ℕ) (kind : Kind) (book : Book) (place : ℕ) (entry : Entry) → slice_get book place ≡ Some entry
    → Kept (turned t kind book) place entry
row_turned t kind [] place entry e = absurd (none-some entry e)
row_turned t kind (row ∷ rows) place entry e =
    at_or_not t row
    (λ here. subst (λ book. Kept book place entry) (sym (turned_here t kind row rows here).0) (first place e))
    (λ apart. subst (λ book. Kept book place entry) (sym (turned_behind t kind row rows apart).0) (later place e (row_turned t kind rows)))
  where
    first : (place : ℕ) → slice_get (row ∷ rows) place ≡ Some entry → Kept (of_kind kind row ∷ rows) place entry
    first zero e =
        let is = same_Some _ _ e in
        record { later = of_kind kind row; stands = refl; holder = ap (λ entry. entry.holder) is; quota = ap (λ entry. entry.quota) is }
    first (suc place) e = record { later = entry; stands = e; holder = refl; quota = refl }

    later : (place : ℕ) → slice_get (row ∷ rows) place ≡ Some entry
        → ((place : ℕ) (entry : Entry) → slice_get rows place ≡ Some entry → Kept (turned t kind rows) place entry)
        → Kept (row ∷ turned t kind rows) place entry
    later zero e rest =
        let is = same_Some _ _ e in
        record { later = row; stands = refl; holder = ap (λ entry. entry.holder) is; quota = ap (λ entry. entry.quota) is }
    later (suc place) e rest =
        let kept = rest place entry e in
        record { later = kept.later; stands = kept.stands; holder = kept.holder; quota = kept.quota }

-- a first row stays the first where its number stays, and the book is no shorter
position_is : (t : List ℕ) (book after : Book) (row : ℕ) → position (is_at t) book ≡ Some row
    → position_or_len (is_at t) after ≡ position_or_len (is_at t) book → length book ≤ length after → position (is_at t) after ≡ Some row
position_is t book after row first same long =
    let was = cond_some _ _ row first in
    let within : position_or_len (is_at t) after < length after = omega (arith, ltb-true _ _ was.0, same, long) in
    cond-true _ _ _ (lt-ltb _ _ within) ∙ ap Some (same ∙ was.1)

module _ (serial : ℕ) (book : Book) (t : List ℕ) (grant : Grant) (own : IsOwn serial book t grant) where
  own_turned : (other : List ℕ) (kind : Kind) → IsOwn serial (turned other kind book) t grant
  own_turned other kind =
      let kept = row_turned other kind book grant.row own.entry own.stands in
      record {
        entry = kept.later;
        first = position_is t book (turned other kind book) grant.row own.first (first_turned t other kind book) (omega (arith, length_turned other kind book));
        stands = kept.stands;
        holder = own.holder ∙ sym kept.holder;
        quota = own.quota ∙ sym kept.quota;
        its_serial = own.its_serial;
      }

  own_pushed : (more : Entry) → IsOwn serial (book ++ more ∷ []) t grant
  own_pushed more =
      let was = cond_some _ _ grant.row own.first in
      let within : position_or_len (is_at t) book < length book = ltb-true _ _ was.0 in
      let len = length_push book more in
      let place = slice_get_within book grant.row own.entry own.stands in
      record {
        entry = own.entry;
        first = position_is t book (book ++ more ∷ []) grant.row own.first
            (position_or_len_push (is_at t) book more
            ∙ cond-false _ _ _ (ne_eqb (position_or_len (is_at t) book) (length book) (λ same. omega (arith, within, same))))
            (omega (arith, len));
        stands = slice_get-get_or (book ++ more ∷ []) grant.row own.entry (omega (arith, len, place))
            ∙ ap Some (get_or_append_left book (more ∷ []) own.entry grant.row place ∙ get_or_from_slice_get book grant.row own.entry own.entry own.stands);
        holder = own.holder;
        quota = own.quota;
        its_serial = own.its_serial;
      }

  own_after : (r : Ruling) → IsOwn serial (book_after r book) t grant
  own_after (refuses refusal) = own
  own_after (enters entry) = own_pushed entry
  own_after (turns other kind told) = own_turned other kind
  own_after (tells told) = own

pub own_grants_stay : OwnGrantsStay
own_grants_stay rules serial book t grant call own = own_after serial book t grant own (ruling rules book call)

-- what is found stands in the first row
found_row : (t : List ℕ) (book : Book) (entry : Entry) → found t book ≡ Some entry
    → (position (is_at t) book ≡ Some (position_or_len (is_at t) book)) × (slice_get book (position_or_len (is_at t) book) ≡ Some entry)
unfolding found
found_row t book entry there =
    let stands = sym (find_at (is_at t) book) ∙ there in
    (cond-true _ _ _ (lt-ltb _ _ (slice_get_within book _ entry stands)), stands)

-- a collect that is answered with terms has found its entry, and they are that entry's
record Collected (book : Book) (t : List ℕ) (holder quota : ℕ) : Type 0 where
  entry : Entry
  here : found t book ≡ Some entry
  holder_is : entry.holder ≡ holder
  quota_is : entry.quota ≡ quota

collects_entry : (rules : Rules) (book : Book) (taker : ℕ) (t : List ℕ) (holder quota : ℕ)
    → answer rules book (collect taker t) ≡ collected holder quota → Collected book t holder quota
unfolding there_is ask
collects_entry rules book taker t holder quota e = go (found t book) refl e
  where
    told : Entry → Kind → Ruling
    told entry kind = ask NotHolder (taker == entry.holder) (turns t kind (collected entry.holder entry.quota))

    go : (there : Option Entry) → found t book ≡ there
        → answer_of (there_is NotInBook there (λ entry. there_is WrongKind (next_kind entry.kind Collect) (told entry))) ≡ collected holder quota
        → Collected book t holder quota
    go None is e = absurd (cc)
    go (Some entry) is e = next (next_kind entry.kind Collect) e
      where
        right : (v : Bool) (kind : Kind) → answer_of (ask NotHolder v (turns t kind (collected entry.holder entry.quota))) ≡ collected holder quota
            → Collected book t holder quota
        right true kind e = record { entry = entry; here = is; holder_is = cc; quota_is = cc }
        right false kind e = absurd (cc)

        next : (kind : Option Kind) → answer_of (there_is WrongKind kind (told entry)) ≡ collected holder quota → Collected book t holder quota
        next None e = absurd (cc)
        next (Some kind) e = right (taker == entry.holder) kind e

pub collects_give_own : CollectsGiveOwn
collects_give_own rules serial book taker t holder quota e =
    let it = collects_entry rules book taker t holder quota e in
    let row = found_row t book it.entry it.here in
    let place = position_or_len (is_at t) book in
    let grant : Grant = record { serial = serial; row = place; holder = holder; quota = quota } in
    let own : IsOwn serial book t grant =
    record { entry = it.entry; first = row.0; stands = row.1; holder = sym it.holder_is; quota = sym it.quota_is; its_serial = refl } in
    (place, own_after serial book t grant own (ruling rules book (collect taker t)))
