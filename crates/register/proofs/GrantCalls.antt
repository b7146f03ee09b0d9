-- The calls of Grants.
use Rattle.std.proofs.Common.{◌≡◌, ℕ, ◌<◌, true, List, length, get_or, is_some, Some, None, sym, ap, ◌∙◌, arith, ◌==◌}
use Rattle.std.specs.Prelude.{slice_get}
use Rattle.std.specs.List.{slice_index_or}
use Rattle.std.proofs.lemmas.Bool.{cond-true, eq-eqb}
use Rattle.std.proofs.lemmas.List.{get_or-set_same, get_or-map, length-map, length-set}
use Rattle.std.proofs.lemmas.Option.{option_and_then_some, slice_get_within}
use Rattle.oid.specs.Meaning.{arcs_of}
use Rattle.book.specs.Book.{Entry, Book}
use Rattle.book.specs.Calls.{Call}
use Rattle.book.specs.Changes.{with_next, next_in, with_entry}
use Rattle.book.specs.Grants.{Grant, DoesAs, spent, answer_spent}
use Rattle.book.specs.Questions.{Rules, ruling}
use Rattle.book.specs.Rulings.{Answer, named}
use Rattle.book.specs.declared.event.Event.{Event}
use Rattle.register.specs.Granted.{Spends}
use Rattle.register.specs.Kept.{entry_of, book_in}
use Rattle.register.specs.Registers.{Follows}
use Rattle.register.specs.declared.row.Row.{Row}
use Rattle.register.proofs.Turns.{some_is}

-- an event that changes the entry in a row has such a row
row_within : (book : Book) (row : ℕ) (event : Event) (entry : Entry) → next_in book row event ≡ Some entry → row < length book
row_within book row event entry is =
    option_and_then_some (with_next event) (slice_get book row) entry is (λ old there becomes. slice_get_within book row old there)

-- a Grant that passes: the row now has what its entry became
module _ (serial : ℕ) (before : Book) (grant : Grant) (event : Event) (rows : List Row) (row : Row) where
  pub passes : grant.serial ≡ serial → true ≡ is_some (next_in before grant.row event)
      → book_in rows ≡ with_entry grant.row (next_in before grant.row event) before → row ≡ slice_index_or rows grant.row row
      → Spends serial before grant event (named (arcs_of row.identifier)) (book_in rows)
  passes its_serial some is here =
      let next = some_is (next_in before grant.row event) (sym some) in
      let within = row_within before grant.row event next.0 next.1 in
      let set = is ∙ ap (λ entry. with_entry grant.row entry before) next.1 in
      let long : length rows ≡ length before = sym (length-map rows entry_of) ∙ ap length set ∙ length-set before grant.row next.0 in
      let spends : spent serial before grant event ≡ Some next.0 = cond-true (grant.serial == serial) _ None (eq-eqb _ _ its_serial) ∙ next.1 in
      let stands : entry_of row ≡ next.0 =
      ap entry_of here ∙ sym (get_or-map entry_of rows grant.row row (entry_of row) (omega (arith, within, long)))
      ∙ ap (λ book. get_or book grant.row (entry_of row)) set ∙ get_or-set_same before grant.row next.0 (entry_of row) within in
      record {
        answers = ap (λ entry. named entry.identifier) stands ∙ ap answer_spent (sym spends);
        leaves = is ∙ ap (λ entry. with_entry grant.row entry before) (next.1 ∙ sym spends);
      }

-- with the register's own Grant for T a call does as the call that names T
pub does_as_named : (rules : Rules) (serial : ℕ) (before : Book) (grant : Grant) (event : Event) (call : Call) (answer : Answer) (after : Book)
    → Spends serial before grant event answer after → DoesAs rules serial before grant event call
    → Follows (ruling rules before call) before answer after
does_as_named rules serial before grant event call answer after spends does =
    record { answers = spends.answers ∙ does.answers; leaves = spends.leaves ∙ does.leaves }
