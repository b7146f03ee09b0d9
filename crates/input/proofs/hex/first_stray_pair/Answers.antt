use Rattle.std.proofs.Common.{rules, tests}
use Rattle.std.proofs.lemmas.Iterator.{YieldsList-from_slice}
use Rattle.std.proofs.lemmas.Iterator.Search.{position_from_yields_List}
use Rattle.input.specs.Hex.{is_stray_pair}
use Rattle.input.proofs.hex.first_stray_pair.Goals as goal

pub returns : goal.returns
returns c =
    position_from_yields_List is_stray_pair _ _ c.position.result c.position.ensures.ran (YieldsList-from_slice c.args.pairs.now cc) (λ x b q k. search (rules, tests))
