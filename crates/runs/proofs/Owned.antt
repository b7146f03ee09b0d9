-- The test for the register's own Grants passes just these, and passes them whatever is called.
use Rattle.std.proofs.Common.{◌≡◌, ℕ, true, ◌==◌, List, [], ◌∷◌, position, slice_get, Some, None, Option, refl, ap, ◌∙◌}
use Rattle.std.specs.Option.{option_eq}
use Rattle.std.proofs.lemmas.Bool.{both_ways, and_parts, and_from, eqb-true, eq-eqb}
use Rattle.book.specs.Book.{Entry, Book, is_at}
use Rattle.book.specs.Calls.{Call}
use Rattle.book.specs.Questions.{Rules, after}
use Rattle.book.specs.Grants.{IsOwn}
use Rattle.book.proofs.GrantRows.{own_grants_stay}
use Rattle.runs.specs.Hands.{Held, has_terms, is_own, AllOwn}

row_is : (place : Option ℕ) (row : ℕ) → option_eq ◌==◌ place (Some row) ≡ true → place ≡ Some row
row_is None row same = absurd (both_ways _ refl same)
row_is (Some place) row same = ap Some (eqb-true place row same)

-- what the test passes is the register's own
pub own_from : (serial : ℕ) (book : Book) (held : Held) → is_own serial book held ≡ true → IsOwn serial book held.identifier held.grant
own_from serial book held passes =
    let outer = and_parts (held.grant.serial == serial) _ passes in
    let inner = and_parts (option_eq ◌==◌ (position (is_at held.identifier) book) (Some held.grant.row)) _ outer.1 in
    go (slice_get book held.grant.row) refl inner.1 (row_is _ _ inner.0) (eqb-true held.grant.serial serial outer.0)
  where
    go : (there : Option Entry) → slice_get book held.grant.row ≡ there → has_terms held.grant there ≡ true
        → position (is_at held.identifier) book ≡ Some held.grant.row → held.grant.serial ≡ serial
        → IsOwn serial book held.identifier held.grant
    go None is terms first its_serial = absurd (both_ways _ refl terms)
    go (Some entry) is terms first its_serial =
        let both = and_parts (held.grant.holder == entry.holder) _ terms in
        record {
          entry = entry;
          first = first;
          stands = is;
          holder = eqb-true _ _ both.0;
          quota = eqb-true _ _ both.1;
          its_serial = its_serial;
        }

-- and the register's own passes it
pub own_passes : (serial : ℕ) (book : Book) (held : Held) → IsOwn serial book held.identifier held.grant → is_own serial book held ≡ true
own_passes serial book held own =
    and_from (held.grant.serial == serial) _ (eq-eqb _ _ own.its_serial)
    (and_from (option_eq ◌==◌ (position (is_at held.identifier) book) (Some held.grant.row)) _
    (ap (λ place. option_eq ◌==◌ place (Some held.grant.row)) own.first ∙ eq-eqb held.grant.row held.grant.row refl)
    (ap (has_terms held.grant) own.stands
    ∙ and_from (held.grant.holder == own.entry.holder) _ (eq-eqb _ _ own.holder) (eq-eqb _ _ own.quota)))

-- so all that are the register's own stay so
pub all_own_after : (rules : Rules) (serial : ℕ) (book : Book) (call : Call) (held : List Held) → AllOwn serial book held
    → AllOwn serial (after rules book call) held
all_own_after rules serial book call [] own = refl
all_own_after rules serial book call (first ∷ held) own =
    let both = and_parts (is_own serial book first) _ own in
    and_from (is_own serial (after rules book call) first) _
    (own_passes serial (after rules book call) first (own_grants_stay rules serial book first.identifier first.grant call (own_from serial book first both.0)))
    (all_own_after rules serial book call held both.1)
