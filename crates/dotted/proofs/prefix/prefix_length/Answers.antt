use Rattle.std.proofs.Common.{cond, length, sym, ap, ◌∙◌}
use Rattle.std.proofs.lemmas.Slice.Eq.{starts_is}
use Rattle.std.proofs.lemmas.Bool.Decides.{Decides-eqb}
use Rattle.oid.proofs.Tree.{begins_is}
use Rattle.dotted.specs.Prefix.{prefix, prefix_length}
use Rattle.dotted.proofs.prefix.prefix_length.Goals as goal

pub returns-then-starts_with-clause-value : goal.returns-then-starts_with-clause-value
unfolding prefix_length prefix
returns-then-starts_with-clause-value c =
    let is = begins_is c.args.text.now prefix _ (starts_is Decides-eqb c.args.text.now prefix _ c.starts_with.ensures.value) in
    ap (λ v. cond v (length prefix) 0) (sym c.if-starts_with.true ∙ is)

pub returns-else-starts_with-clause-value : goal.returns-else-starts_with-clause-value
unfolding prefix_length prefix
returns-else-starts_with-clause-value c =
    let is = begins_is c.args.text.now prefix _ (starts_is Decides-eqb c.args.text.now prefix _ c.starts_with.ensures.value) in
    ap (λ v. cond v (length prefix) 0) (sym c.if-starts_with.false ∙ is)
