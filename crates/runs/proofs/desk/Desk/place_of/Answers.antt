use Rattle.std.proofs.Common.{rules, tests, sym, ◌∙◌}
use Rattle.std.proofs.lemmas.Iterator.{YieldsList-from_slice}
use Rattle.std.proofs.lemmas.Iterator.Search.{position_from_yields_List}
use Rattle.oid.specs.Meaning.{arcs_of}
use Rattle.runs.specs.Hands.{is_for}
use Rattle.runs.specs.Out.{held_of}
use Rattle.runs.proofs.Places.{position_held}
use Rattle.runs.proofs.desk.Desk.place_of.Goals as goal

pub returns : goal.returns
returns g c =
    let t = arcs_of c.args.entry.now in
    position_from_yields_List (λ held. is_for t (held_of held)) _ _ c.position.result c.position.ensures.ran
    (YieldsList-from_slice c.args.self.now.held.items cc) (λ x b q k. search (rules, tests))
    ∙ sym (position_held t c.args.self.now.held.items)
