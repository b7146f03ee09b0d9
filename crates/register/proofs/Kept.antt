-- The rows that a register keeps, one after the other.
use Rattle.std.proofs.Common.{◌≡◌, ℕ, ◌+◌, ◌<◌, ◌≤◌, Bool, cond, List, [], ◌∷◌, ◌++◌, length, get_or, take, not, find, position, slice_get, slice_set, unwrap_or, Some, None, Option, nat_lt, refl, sym, ap, ◌∙◌, subst, arith}
use Rattle.std.specs.List.{position_or_len}
use Rattle.std.specs.Option.{option_map, option_and_then}
use Rattle.std.proofs.lemmas.Bool.{cond-true, cond-false, ltb-true, lt-ltb, le-ltb}
use Rattle.std.proofs.lemmas.Option.{cond_some, none-some, slice_get_within, slice_get-get_or, slice_get-map}
use Rattle.std.proofs.lemmas.List.{take_more, map_push, length-map, map-set, get_or-map, set-get_or}
use Rattle.std.proofs.lemmas.List.Folds.{find_at}
use Rattle.book.specs.Book.{Entry, most_entries, is_at, found}
use Rattle.book.specs.Rulings.{refuses, enters, ask}
use Rattle.book.specs.Questions.{entering}
use Rattle.book.specs.Changes.{with_next, turned_entry, next_in, with_entry}
use Rattle.register.specs.Kept.{entry_of, book_in}
use Rattle.book.specs.declared.event.Event.{Event}
use Rattle.book.specs.declared.refusal.Refusal.TheVariants.{BookFull}
use Rattle.register.specs.declared.row.Row.{Row}

-- the book of some first rows, with the next
pub book_more : (rows : List Row) (place : ℕ) (row : Row) → place < length rows → get_or rows place row ≡ row
    → book_in (take (place + 1) rows) ≡ book_in (take place rows) ++ entry_of row ∷ []
book_more rows place row within is =
    ap book_in (take_more rows place row within ∙ ap (λ next. take place rows ++ next ∷ []) is) ∙ map_push entry_of (take place rows) row

-- the first entry that passes a test is in the first row that does
first_in_book : (test : Entry → Bool) (rows : List Row) → position_or_len test (book_in rows) ≡ position_or_len (λ row. test (entry_of row)) rows
first_in_book test [] = refl
first_in_book test (row ∷ rows) = ap (λ n. cond (not (test (entry_of row))) (1 + n) 0) (first_in_book test rows)

pub position_in_book : (test : Entry → Bool) (rows : List Row) → position test (book_in rows) ≡ position (λ row. test (entry_of row)) rows
position_in_book test rows =
    ap (λ n. cond (nat_lt n (length (book_in rows))) (Some n) None) (first_in_book test rows)
    ∙ ap (λ n. cond (nat_lt (position_or_len (λ row. test (entry_of row)) rows) n) (Some (position_or_len (λ row. test (entry_of row)) rows)) None)
    (length-map rows entry_of)

-- and so what is found in a book is the entry of that row
module _ (identifier : List ℕ) (rows : List Row) where
  pub row_in_table : (place : ℕ) (row : Row) → position (is_at identifier) (book_in rows) ≡ Some place → get_or rows place row ≡ row
      → slice_get (book_in rows) place ≡ Some (entry_of row)
  row_in_table place row first is =
      let first = cond_some _ _ place first in
      let within = subst (λ n. n < length (book_in rows)) first.1 (ltb-true _ _ first.0) in
      slice_get-map entry_of rows place
      ∙ ap (option_map entry_of) (slice_get-get_or rows place row (omega (arith, within, length-map rows entry_of)) ∙ ap Some is)

  pub found_in_table : (place : ℕ) (row : Row) → position (is_at identifier) (book_in rows) ≡ Some place → get_or rows place row ≡ row
      → found identifier (book_in rows) ≡ Some (entry_of row)
  unfolding found
  found_in_table place row first is =
      find_at (is_at identifier) (book_in rows) ∙ ap (slice_get (book_in rows)) (cond_some _ _ place first).1 ∙ row_in_table place row first is

  pub not_in_table : position (is_at identifier) (book_in rows) ≡ None → found identifier (book_in rows) ≡ None
  unfolding found
  not_in_table none = go (find (is_at identifier) (book_in rows)) refl
    where
      go : (there : Option Entry) → find (is_at identifier) (book_in rows) ≡ there → there ≡ None
      go None is = refl
      go (Some entry) is =
          let within = slice_get_within (book_in rows) _ entry (sym (find_at (is_at identifier) (book_in rows)) ∙ is) in
          absurd (none-some _ (sym none ∙ cond-true _ _ _ (lt-ltb _ _ within)))

-- one row more, where there is room
module _ (rows : List Row) (entry : Entry) where
  pub no_room : most_entries ≤ length rows → entering (book_in rows) entry ≡ refuses BookFull
  unfolding ask
  no_room full = cond-false _ _ _ (le-ltb (length (book_in rows)) most_entries (omega (arith, full, length-map rows entry_of)))

  pub some_room : length rows < most_entries → entering (book_in rows) entry ≡ enters entry
  unfolding ask
  some_room few = cond-true _ _ _ (lt-ltb (length (book_in rows)) most_entries (omega (arith, few, length-map rows entry_of)))

-- one row with the kind that an event gives it
pub turned_in_table : (rows : List Row) (place : ℕ) (event : Event) (row turned : Row) → place < length rows → get_or rows place row ≡ row
    → entry_of turned ≡ turned_entry event (entry_of row)
    → book_in (slice_set rows place turned) ≡ with_entry place (next_in (book_in rows) place event) (book_in rows)
turned_in_table rows place event row turned within is becomes =
    map-set entry_of rows place turned ∙ ap (slice_set (book_in rows) place) becomes ∙ go (with_next event (entry_of row))
    ∙ ap (λ next. with_entry place next (book_in rows)) (sym (ap (option_and_then (with_next event)) there))
  where
    there : slice_get (book_in rows) place ≡ Some (entry_of row)
    there = slice_get-map entry_of rows place ∙ ap (option_map entry_of) (slice_get-get_or rows place row within ∙ ap Some is)

    go : (next : Option Entry) → slice_set (book_in rows) place (unwrap_or next (entry_of row)) ≡ with_entry place next (book_in rows)
    go None =
        ap (slice_set (book_in rows) place) (sym (get_or-map entry_of rows place row (entry_of row) within ∙ ap entry_of is))
        ∙ set-get_or (book_in rows) place (entry_of row)
    go (Some next) = refl
