use Rattle.std.proofs.Common.{set, ap, ◌∙◌}
use Rattle.std.specs.Option.{option_or}
use Rattle.oid.proofs.Collecting.{collected_more}
use Rattle.oid.proofs.collector.Collector.add.Goals as goal

pub returns : goal.returns
returns c =
    let before = c.args.self.now in
    collected_more before _ c.args.numeral c.is_none.result
    c.saturating_add-self.ensures
    (c.store.ensures ∙ ap (set before.arcs before.count) c.unwrap_or.ensures)
    c.store-2.ensures
    (c.or-self.ensures ∙ ap (option_or before.padded) c.then_some.ensures)
    c.is_none.ensures
    (c.or-self-2.ensures ∙ ap (option_or before.large) c.then_some-2.ensures)
