use Rattle.std.proofs.Common.{rules}
use Rattle.register.specs.Registers.{founding_of}
use Rattle.register.proofs.register.Register.founded.Goals as goal

pub returns-clause-begins : goal.returns-clause-begins
returns-clause-begins g c = (founding_of g.P.ArcRule.means g.A.ArcRule.means c.args.founding, c.args.founding.root.rule, search rules)
