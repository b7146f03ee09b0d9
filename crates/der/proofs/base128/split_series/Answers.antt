use Rattle.std.proofs.Common.{rules, tests, sym, ◌∙◌}
use Rattle.std.proofs.lemmas.Iterator.{YieldsList-from_slice}
use Rattle.std.proofs.lemmas.Iterator.Search.{position_from_yields_List}
use Rattle.der.specs.Base128.{is_last}
use Rattle.der.proofs.Series.{series_found}
use Rattle.der.proofs.base128.split_series.Goals as goal

pub returns-in-Some : goal.returns-in-Some
returns-in-Some c =
    let bytes = c.args.bytes.now in
    let found = sym c.in-Some.is ∙ position_from_yields_List is_last _ _ c.position.result c.position.ensures.ran (YieldsList-from_slice bytes cc) (λ x b q k. search (rules, tests)) in
    let is = series_found bytes _ found in
    record { front = c.split_at.ensures.front ∙ is.0; back = c.split_at.ensures.back ∙ is.1; lengths = search rules }

pub returns-in-None : goal.returns-in-None
returns-in-None c =
    let bytes = c.args.bytes.now in
    let found = sym c.in-None.is ∙ position_from_yields_List is_last _ _ c.position.result c.position.ensures.ran (YieldsList-from_slice bytes cc) (λ x b q k. search (rules, tests)) in
    let is = series_found bytes _ found in
    record { front = is.0; back = is.1; lengths = search rules }
