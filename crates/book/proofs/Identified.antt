-- Books whose entries all have identifiers: what is found, and what is entered, has one too.
use Rattle.std.proofs.Common.{◌≡◌, ℕ, ◌+◌, ◌<◌, ◌≤◌, true, List, length, Some, sym, ap, ◌∙◌, arith}
use Rattle.std.specs.List.{AllByRecursion}
use Rattle.std.proofs.lemmas.Bool.{cond-true, and_from, lt-ltb, le-leb}
use Rattle.std.proofs.lemmas.List.{length_push}
use Rattle.oid.specs.Arcs.{arc_limit}
use Rattle.oid.specs.Tree.{most_arcs, is_identifier, parent_of}
use Rattle.oid.proofs.Tree.{some_arcs, identified_some}
use Rattle.oid.proofs.Family.{child_is}
use Rattle.book.specs.Book.{Entry, Book, found}
use Rattle.book.specs.Calls.{Call}
use Rattle.book.specs.Questions.{Rules}
use Rattle.book.proofs.Identifiers.{parent_of_child}
use Rattle.book.proofs.Rows.{found_identifier, found_all}
use Rattle.book.proofs.Ruled.{Entered}

abbrev pub Identified : Book → Type 0
Identified book = AllByRecursion (λ row. is_identifier row.identifier ≡ true) book

module _ (book : Book) (identified : Identified book) where
  -- what is found has an identifier
  pub found_identified : (identifier : List ℕ) (entry : Entry) → found identifier book ≡ Some entry → is_identifier identifier ≡ true
  found_identified identifier entry e =
      ap is_identifier (sym (found_identifier identifier book entry e))
      ∙ found_all (λ row. is_identifier row.identifier ≡ true) identifier book entry identified e

  module _ (rules : Rules) (call : Call) (entry : Entry) (entered : Entered rules book call entry) where
    pub giver_long : 2 ≤ length entered.o
    giver_long = some_arcs entered.o (found_identified entered.o entered.authority entered.asked.here)

    -- the giver is the parent of what is entered
    pub entered_parent : parent_of entry.identifier ≡ Some entered.o
    entered_parent = ap parent_of entered.identifier ∙ parent_of_child entered.o entered.arc giver_long

    pub entered_long : length entry.identifier ≡ length entered.o + 1
    entered_long = ap length entered.identifier ∙ length_push entered.o entered.arc

    -- and what is entered has an identifier
    pub entered_identified : is_identifier entry.identifier ≡ true
    entered_identified =
        let short : length entered.o < most_arcs = omega (arith, entered.asked.short) in
        let child = child_is entered.o entered.arc (found_identified entered.o entered.authority entered.asked.here) short in
        let all = cond-true _ _ _ (and_from _ _ (lt-ltb (length entered.o) most_arcs short) (le-leb entered.arc arc_limit entered.asked.within)) in
        ap is_identifier entered.identifier ∙ (identified_some _ _ (sym (child ∙ all))).0
