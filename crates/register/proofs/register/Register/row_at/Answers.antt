use Rattle.std.proofs.Common.{rules, tests, sym, ◌∙◌}
use Rattle.std.proofs.lemmas.Iterator.{YieldsList-from_slice}
use Rattle.std.proofs.lemmas.Iterator.Search.{position_from_yields_List}
use Rattle.oid.specs.Meaning.{arcs_of}
use Rattle.book.specs.Book.{is_at}
use Rattle.register.specs.Kept.{entry_of}
use Rattle.register.proofs.Kept.{position_in_book}
use Rattle.register.proofs.register.Register.row_at.Goals as goal

pub returns : goal.returns
returns g c =
    let identifier = arcs_of c.args.identifier.now in
    position_from_yields_List (λ row. is_at identifier (entry_of row)) _ _ c.position.result c.position.ensures.ran
    (YieldsList-from_slice c.args.self.now.rows.items cc) (λ x b q k. search (rules, tests))
    ∙ sym (position_in_book (is_at identifier) c.args.self.now.rows.items)
