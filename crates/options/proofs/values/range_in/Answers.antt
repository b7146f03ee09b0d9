use Rattle.std.proofs.Common.{◌==◌, ap, sym, ◌∙◌, option_map}
use Rattle.arc_rules.specs.Sets.{from_to}
use Rattle.options.specs.Values.{minus}
use Rattle.options.proofs.Cutting.{no_two_arcs}
use Rattle.options.proofs.values.range_in.Goals as goal

pub returns-then-is_some : goal.returns-then-is_some
returns-then-is_some c =
    let some = sym c.is_some.ensures ∙ c.if-is_some.true in
    sym (ap (option_map (λ arcs. from_to arcs.0 arcs.1)) (no_two_arcs (λ byte. byte == minus) c.args.text.now c.cut.result.0.now c.cut-2.result.0.now c.cut.result.1 c.in_ok-behind.field-0 c.cut-2.result.1 c.cut.ensures.parts c.in_ok-behind.was c.cut-2.ensures.parts some))
