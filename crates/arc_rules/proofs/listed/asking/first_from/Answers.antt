use Rattle.std.proofs.Common.{rules, tests, ◌≡◌, nat_le, sym, ◌∙◌, subst}
use Rattle.std.proofs.lemmas.Iterator.{YieldsList-from_slice}
use Rattle.std.proofs.lemmas.Iterator.Adapters.{option_map_id}
use Rattle.std.proofs.lemmas.Iterator.Consumers.{YieldsList-from_copied}
use Rattle.std.proofs.lemmas.Iterator.Search.{find_from_yields_List}
use Rattle.std.specs.List.{find}
use Rattle.oid.proofs.Arcs.{limit_width}
use Rattle.arc_rules.specs.Lowest.{IsLowest}
use Rattle.arc_rules.proofs.Listing.{first_is_lowest}
use Rattle.arc_rules.proofs.listed.asking.first_from.Goals as goal

pub returns : goal.returns
returns c =
    let first : c.find.result ≡ find (nat_le c.args.asked) c.args.arcs.now =
    sym (option_map_id c.find.result) ∙ find_from_yields_List (nat_le c.args.asked) _ _ c.find.result c.find.ensures.ran
    (YieldsList-from_copied (YieldsList-from_slice c.args.arcs.now cc)) (λ x b q k. search (rules, tests)) in
    subst (IsLowest _ c.args.asked) (sym first) (first_is_lowest c.args.arcs.now c.args.asked c.requires (λ i. limit_width _ (c.type_inv.arcs i).fits))
