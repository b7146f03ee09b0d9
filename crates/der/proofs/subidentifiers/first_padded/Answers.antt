use Rattle.std.proofs.Common.{◌≡◌, sym, ap, ◌∙◌, rules, tests}
use Rattle.std.specs.Option.{option_map}
use Rattle.std.proofs.lemmas.Iterator.Search.{find_from_yields_List}
use Rattle.std.proofs.lemmas.Iterator.Consumers.{YieldsList-from_first}
use Rattle.der.specs.Subidentifiers.{series_from}
use Rattle.der.proofs.Series.{series_of, offset_of, first_is_80, padded_found}
use Rattle.der.proofs.subidentifiers.first_padded.Goals as goal

pub returns : goal.returns
returns c =
    let all = series_from 2 c.args.contents.now in
    let same : series_from c.new.result.offset c.new.result.left.now ≡ all = λ k. series_from (c.new.ensures.offset k) (c.new.ensures.left k) in
    let found = find_from_yields_List first_is_80 c.find.new.self _ c.find.result c.find.ensures.ran (YieldsList-from_first series_of (λ s. series_from s.offset s.left.now) {s = c.new.result} all same) (λ x b q k. search (rules, tests)) in
    let told : c.map.result ≡ option_map (λ x. x.offset) c.find.result = search rules in
    told ∙ offset_of c.find.result ∙ ap (option_map (λ series. series.offset)) found ∙ sym (padded_found all)
