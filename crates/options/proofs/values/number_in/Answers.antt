use Rattle.std.proofs.Common.{ap, sym, ◌∙◌, arith}
use Rattle.std.specs.Option.{ok_or}
use Rattle.oid.proofs.Arcs.{limit_width}
use Rattle.dotted.specs.Pieces.{numeral}
use Rattle.options.specs.declared.bad_option.BadOption.TheVariants.{NotANumber}
use Rattle.options.proofs.Capping.{none_to}
use Rattle.options.proofs.values.number_in.Goals as goal

pub returns-in_default : goal.returns-in_default
returns-in_default c =
    let most = c.args.most in
    ap (λ found. ok_or found (NotANumber c.args.option most)) (sym (none_to most (numeral c.args.text.now) (limit_width most (omega arith)) (sym c.numeral.ensures ∙ c.in_default.is)))
