use Rattle.std.proofs.Common.{ap, ◌∙◌, rules}
use Rattle.oid.specs.Tree.{is_identifier}
use Rattle.oid.proofs.Places.{same_from_arcs}
use Rattle.oid.proofs.identifier.Identifier.arcs.Goals as goal

pub returns : goal.returns
returns c = record {
  value = search rules;
  rule = ap is_identifier (search rules) ∙ c.args.self.now.rule;
  only = λ other e. same_from_arcs other c.args.self.now (e ∙ search rules);
}
