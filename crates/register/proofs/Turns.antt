-- An entry that a call names gets another kind.
use Rattle.std.proofs.Common.{◌≡◌, ℕ, ◌<◌, Bool, true, false, List, length, get_or, is_some, Some, None, Option, refl, ap, ◌∙◌}
use Rattle.std.proofs.lemmas.Option.{get_or_from_slice_get}
use Rattle.std.proofs.lemmas.List.Quantifiers.{position-Some}
use Rattle.std.specs.Option.{option_map, option_and_then}
use Rattle.book.specs.Kinds.{next_kind}
use Rattle.book.specs.Book.{Entry, Book, is_at, found}
use Rattle.book.specs.Changes.{with_next, next_in, with_entry}
use Rattle.book.specs.Questions.{turning}
use Rattle.book.specs.Rulings.{Answer, refused, turns, turned, ask}
use Rattle.book.specs.declared.event.Event.{Event}
use Rattle.book.specs.declared.kind.Kind.{Kind}
use Rattle.book.specs.declared.refusal.Refusal.TheVariants.{NotInBook, WrongKind, NotHolder}
use Rattle.book.proofs.OwnGrants.{turned_in_row, found_in_row}
use Rattle.register.specs.Asked.{StandsFirst}
use Rattle.register.specs.Kept.{entry_of}
use Rattle.register.specs.Registers.{Follows}
use Rattle.register.specs.declared.standing.Standing.{Standing}
use Rattle.register.proofs.Asking.{asked_yes, asked_no, something, follows_same, follows_no}

-- there is something where there is said to be
pub some_is : {A : Type 0} (thing : Option A) → is_some thing ≡ true → (found : A) × (thing ≡ Some found)
some_is None h = absurd cc
some_is (Some found) h = (found, refl)

pub none_is : {A : Type 0} (thing : Option A) → is_some thing ≡ false → thing ≡ None
none_is None h = refl
none_is (Some found) h = absurd cc

module _ (book : Book) (t : List ℕ) (event : Event) (standing : Standing) (stands : StandsFirst book t event standing) where
  abbrev entry : Entry
  entry = entry_of standing.row

  next : (kind : Kind) × (next_kind entry.kind event ≡ Some kind)
  next = some_is (next_kind entry.kind event) stands.changes

  here : found t book ≡ Some entry
  here = found_in_row t book standing.number stands.first ∙ stands.row

  first : (standing.number < length book) × (is_at t (get_or book standing.number entry) ≡ true)
      × ((above : ℕ) → above < standing.number → is_at t (get_or book above entry) ≡ false)
  first = position-Some (is_at t) book standing.number entry stands.first

  -- the book with the kind of its row changed
  changed : with_entry standing.number (next_in book standing.number event) book ≡ turned t next.0 book
  changed =
      ap (λ there. with_entry standing.number (option_and_then (with_next event) there) book) stands.row
      ∙ ap (λ kind. with_entry standing.number (option_map (λ kind. record entry { kind = kind }) kind) book) next.1
      ∙ turned_in_row t next.0 book standing.number entry stands.row first.2
      (rw (get_or_from_slice_get book standing.number entry entry stands.row) at first.1)

  -- up to 15 all is answered yes
  asked : (by_right : Entry → Bool) (answer : Entry → Answer)
      → turning book t event by_right answer ≡ ask NotHolder (by_right entry) (turns t next.0 (answer entry))
  asked by_right answer = something NotInBook _ entry _ here ∙ something WrongKind _ next.0 _ next.1

  pub follows_turn : (by_right : Entry → Bool) (answer : Entry → Answer) (after : Book) → by_right entry ≡ true
      → after ≡ with_entry standing.number (next_in book standing.number event) book
      → Follows (turning book t event by_right answer) book (answer entry) after
  follows_turn by_right answer after right is =
      follows_same _ (turns t next.0 (answer entry)) book (answer entry) after (asked by_right answer ∙ asked_yes NotHolder _ _ right)
      (record { answers = refl; leaves = is ∙ changed })

  pub follows_no_right : (by_right : Entry → Bool) (answer : Entry → Answer) → by_right entry ≡ false
      → Follows (turning book t event by_right answer) book (refused NotHolder) book
  follows_no_right by_right answer wrong = follows_no _ book NotHolder (asked by_right answer ∙ asked_no NotHolder _ _ wrong)
