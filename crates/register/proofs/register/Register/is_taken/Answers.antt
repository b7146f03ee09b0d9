use Rattle.std.proofs.Common.{rules, tests, ◌∙◌}
use Rattle.std.proofs.lemmas.Iterator.{YieldsList-from_slice}
use Rattle.std.proofs.lemmas.Iterator.Search.{any_from_yields_List}
use Rattle.oid.specs.Meaning.{arcs_of}
use Rattle.register.specs.Kept.{entry_of, has_arc}
use Rattle.register.proofs.Children.{taken_in}
use Rattle.register.proofs.register.Register.is_taken.Goals as goal

pub returns : goal.returns
returns g c =
    let authority = arcs_of c.args.authority.now in
    any_from_yields_List (λ row. has_arc authority c.args.arc (entry_of row)) _ _ c.any.result c.any.ensures.ran
    (YieldsList-from_slice c.args.self.now.rows.items cc) (λ x b q k. search (rules, tests))
    ∙ taken_in authority c.args.arc c.args.self.now.rows.items
