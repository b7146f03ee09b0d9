use Rattle.std.proofs.Common.{sym, ap, ◌∙◌, arith}
use Rattle.std.proofs.lemmas.List.{map_push}
use Rattle.register.specs.Kept.{entry_of, book_in}
use Rattle.book.specs.Rulings.{answer_of, book_after}
use Rattle.register.proofs.Kept.{no_room, some_room}
use Rattle.register.proofs.register.Register.enter.Goals as goal

pub returns-then-len-ge-MOST_ENTRIES-clause-ruling : goal.returns-then-len-ge-MOST_ENTRIES-clause-ruling
returns-then-len-ge-MOST_ENTRIES-clause-ruling g c =
    let rows = c.args.self.now.rows in
    let full = sym (no_room rows.items (entry_of c.args.row) (omega (arith, rows.ok.0, c.len.ensures, c.if-len-ge-MOST_ENTRIES.true))) in
    record { answers = ap answer_of full; leaves = ap (λ ruling. book_after ruling (book_in rows.items)) full }

pub returns-clause-ruling : goal.returns-clause-ruling
returns-clause-ruling g c =
    let rows = c.args.self.now.rows in
    let room = sym (some_room rows.items (entry_of c.args.row) (omega (arith, rows.ok.0, c.len.ensures, c.if-len-ge-MOST_ENTRIES.false))) in
    record {
      answers = ap answer_of room;
      leaves = ap book_in c.push_reserved.ensures.items ∙ map_push entry_of rows.items c.args.row
          ∙ ap (λ ruling. book_after ruling (book_in rows.items)) room;
    }
