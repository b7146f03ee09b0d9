use Rattle.std.proofs.Common.{◌-◌, not, length, refl, sym, ◌∙◌, arith, rules}
use borrow.Author.Tests.{tests}
use Rattle.std.proofs.lemmas.Iterator.{YieldsList-from_range}
use Rattle.std.proofs.lemmas.Iterator.Adapters.{option_map_id}
use Rattle.std.proofs.lemmas.Iterator.Search.{find_from_yields_List}
use Rattle.dotted.specs.Laws.{fits_at}
use Rattle.dotted.proofs.Misfits.{faulty_found}
use Rattle.dotted.proofs.form.first_fault.Goals as goal

pub returns : goal.returns
returns c =
    let text = c.args.text.now in
    let start = c.args.start in
    let bytes = YieldsList-from_range start (length text) (length text - start) refl refl in
    sym (option_map_id c.find.result)
    ∙ find_from_yields_List (λ i. not (fits_at text start i)) _ _ c.find.result c.find.ensures.ran bytes (λ x b q k. search (rules, tests))
    ∙ sym (faulty_found text start (omega arith))
