-- The order of the Grants that are out does not matter; and each of them tells the terms of what it is for.
use Rattle.std.proofs.Common.{◌≡◌, ℕ, suc, ◌+◌, ◌<◌, false, List, [], ◌∷◌, ◌++◌, length, map, get_or, take, drop, position, remove, slice_get, Some, None, Ok, Err, Option, refl, sym, ap, ◌∙◌, subst, arith}
use Rattle.std.specs.List.{list_all}
use Rattle.std.specs.Option.{option_map}
use Rattle.std.proofs.lemmas.Bool.{and_parts, and_from, cond-true, cond-false}
use Rattle.std.proofs.lemmas.Option.{slice_get_read, slice_get-map, get_or_from_slice_get}
use Rattle.std.proofs.lemmas.List.{length-append, length-map, map-append, take-map, drop-map}
use Rattle.std.proofs.lemmas.List.Sums.{sum_by-append, sum_by-cons}
use Rattle.std.proofs.lemmas.List.Folds.{list_all-append}
use Rattle.std.proofs.lemmas.List.Quantifiers.{position-Some}
use Rattle.book.specs.Book.{Entry, Book, found}
use Rattle.book.specs.Grants.{IsOwn}
use Rattle.book.specs.declared.refusal.Refusal.TheVariants.{NotInHand}
use Rattle.book.proofs.Identifiers.{same_true}
use Rattle.book.proofs.OwnGrants.{found_in_row}
use Rattle.register.specs.declared.grant.Grant as code_grant
use Rattle.register.specs.declared.grant.Terms.{Terms}
use Rattle.runs.specs.Hands.{Held, is_for, is_own, in_hand, found_in_hand, flag, AllOwn, Hands, told_terms, terms_in}
use Rattle.runs.specs.Out.{held_of, held_in}
use Rattle.runs.specs.declared.held.Held as code
use Rattle.runs.proofs.Owned.{own_from}
use Rattle.runs.proofs.Spending.{split_at, some_in_hand, none_in_hand}

-- ---- order

-- one of them put behind the others
put_behind : (serial : ℕ) (book : Book) (front back : List Held) (one : Held) → Hands serial book (front ++ one ∷ back)
    → Hands serial book ((front ++ back) ++ one ∷ [])
put_behind serial book front back one hands =
    let all = list_all-append (is_own serial book) front (one ∷ back) in
    let parts = and_parts (list_all (is_own serial book) front) _ (sym all ∙ hands.own) in
    let behind = and_parts (is_own serial book one) _ parts.1 in
    record {
      own = list_all-append (is_own serial book) (front ++ back) (one ∷ [])
          ∙ and_from _ _ (list_all-append (is_own serial book) front back ∙ and_from _ _ parts.0 behind.1) (and_from _ _ behind.0 refl);
      each_once = λ other.
          let before = hands.each_once other in
          let with_it = sum_by-append (λ one. flag (is_for other one)) front (one ∷ back) in
          let first = sum_by-cons (λ one. flag (is_for other one)) one back in
          let without = sum_by-append (λ one. flag (is_for other one)) front back in
          let again = sum_by-append (λ one. flag (is_for other one)) (front ++ back) (one ∷ []) in
          let last = sum_by-cons (λ one. flag (is_for other one)) one [] in
          omega (arith, before, with_it, first, without, again, last);
      as_many =
          let with_it = length-append front (one ∷ back) in
          let without = length-append front back in
          let again = length-append (front ++ back) (one ∷ []) in
          omega (arith, hands.as_many, with_it, without, again);
    }

-- one taken from its place, and put behind the others
pub moved_behind : (serial : ℕ) (book : Book) (held : List Held) (index : ℕ) (one : Held) → Hands serial book held
    → slice_get held index ≡ Some one → Hands serial book (remove held index ++ one ∷ [])
moved_behind serial book held index one hands there =
    let on : index + 1 ≡ suc index = omega arith in
    subst (λ on. Hands serial book ((take index held ++ drop on held) ++ one ∷ [])) on
    (put_behind serial book (take index held) (drop (index + 1) held) one (subst (Hands serial book) (split_at held index one there) hands))

-- ---- terms

own_at : (serial : ℕ) (book : Book) (held : List Held) (index : ℕ) (one : Held) → Hands serial book held
    → slice_get held index ≡ Some one → IsOwn serial book one.identifier one.grant
own_at serial book held index one hands there =
    let own = subst (AllOwn serial book) (split_at held index one there) hands.own in
    let all = list_all-append (is_own serial book) (take index held) (one ∷ drop (index + 1) held) in
    let parts = and_parts (list_all (is_own serial book) (take index held)) _ (sym all ∙ own) in
    own_from serial book one (and_parts (is_own serial book one) _ parts.1).0

-- the terms of the Grant in the first place that is for T
pub terms_at : (serial : ℕ) (book : Book) (held : List Held) (t : List ℕ) (index : ℕ) (one : Held) → Hands serial book held
    → position (is_for t) held ≡ Some index → slice_get held index ≡ Some one → one.identifier ≡ t
    → told_terms t book ≡ Ok (record { holder = one.grant.holder; quota = one.grant.quota })
terms_at serial book held t index one hands first there for_t =
    let own = subst (λ t. IsOwn serial book t one.grant) for_t (own_at serial book held index one hands there) in
    let here = found_in_row t book one.grant.row own.first ∙ own.stands in
    let in_hand_now = sym (ap found_in_hand here) ∙ some_in_hand serial book held hands t index first in
    ap terms_in here
    ∙ cond-true (in_hand own.entry) _ (Err NotInHand) in_hand_now
    ∙ (λ i. Ok (record { holder = sym own.holder i; quota = sym own.quota i }))

pub no_terms : (serial : ℕ) (book : Book) (held : List Held) (t : List ℕ) → Hands serial book held
    → position (is_for t) held ≡ None → told_terms t book ≡ Err NotInHand
no_terms serial book held t hands none = go (found t book) (none_in_hand serial book held hands t none)
  where
    go : (there : Option Entry) → found_in_hand there ≡ false → terms_in there ≡ Err NotInHand
    go None out = refl
    go (Some entry) out = cond-false (in_hand entry) _ _ out

-- ---- the code's lists

pub out_without : (items : List code.Held) (place : ℕ) → held_in (remove items place) ≡ remove (held_in items) place
out_without items place =
    map-append held_of (take place items) (drop (suc place) items)
    ∙ ap (λ front. front ++ map held_of (drop (suc place) items)) (sym (take-map held_of place items))
    ∙ ap (λ back. take place (held_in items) ++ back) (sym (drop-map held_of (suc place) items))

-- what stands in a place that was found
pub out_at : (items : List code.Held) (t : List ℕ) (place : ℕ) (one : code.Held) → position (is_for t) (held_in items) ≡ Some place
    → one ≡ get_or items place one → (slice_get (held_in items) place ≡ Some (held_of one)) × ((held_of one).identifier ≡ t)
out_at items t place one first is =
    let out = held_of one in
    let passes = position-Some (is_for t) (held_in items) place out first in
    let long = length-map items held_of in
    let within : place < length items = omega (arith, passes.0, long) in
    let there = slice_get-map held_of items place ∙ ap (option_map held_of) (slice_get_read items (length items) place one refl within is) in
    (there, same_true out.identifier t (sym (ap (is_for t) (get_or_from_slice_get (held_in items) place out out there)) ∙ passes.1))

-- it may be taken out and put behind the others, with its own Grant
pub behind_again : (serial : ℕ) (book : Book) (items rest later : List code.Held) (t : List ℕ) (place : ℕ) (one : code.Held) (grant : code_grant.Grant)
    → Hands serial book (held_in items) → position (is_for t) (held_in items) ≡ Some place → one ≡ get_or items place one
    → rest ≡ remove items place → grant ≡ one.grant → later ≡ rest ++ record { entry = one.entry; grant = grant } ∷ []
    → Hands serial book (held_in later)
behind_again serial book items rest later t place one grant hands first is without its_own put =
    let out = held_of one in
    let put_so : later ≡ remove items place ++ one ∷ [] =
    put ∙ (λ i. without i ++ record { entry = one.entry; grant = its_own i } ∷ []) in
    let after : held_in later ≡ remove (held_in items) place ++ out ∷ [] =
    ap held_in put_so ∙ map-append held_of (remove items place) (one ∷ []) ∙ ap (λ rest. rest ++ out ∷ []) (out_without items place) in
    subst (Hands serial book) (sym after) (moved_behind serial book (held_in items) place out hands (out_at items t place one first is).0)

-- and tells its terms
pub tells_terms : (serial : ℕ) (book : Book) (items : List code.Held) (t : List ℕ) (place : ℕ) (one : code.Held) (terms : Terms)
    → Hands serial book (held_in items) → position (is_for t) (held_in items) ≡ Some place → one ≡ get_or items place one
    → terms.holder ≡ one.grant.holder → terms.quota ≡ one.grant.quota → Ok terms ≡ told_terms t book
tells_terms serial book items t place one terms hands first is holder quota =
    let there = out_at items t place one first is in
    (λ i. Ok (record { holder = holder i; quota = quota i }))
    ∙ sym (terms_at serial book (held_in items) t place (held_of one) hands first there.0 there.1)
