use Rattle.std.proofs.Common.{leb, ap, sym, ◌∙◌, arith}
use Rattle.std.specs.Option.{ok_or}
use Rattle.std.proofs.lemmas.Bool.{lt-leb}
use Rattle.oid.proofs.Arcs.{limit_width}
use Rattle.dotted.specs.Pieces.{numeral}
use Rattle.request.proofs.Numbers.{none_passes}
use Rattle.counter.specs.Reading.{most_number}
use Rattle.counter.specs.declared.no_call.NoCall.TheVariants.{NotANumber}
use Rattle.counter.proofs.reader.number_in.Goals as goal

pub returns-in_default : goal.returns-in_default
returns-in_default c =
    ap (λ found. ok_or found (NotANumber c.args.part.offset)) (sym (none_passes (λ number. leb number most_number) (numeral c.args.part.text.now) (λ number h. lt-leb number most_number (omega (arith, h, limit_width most_number (omega arith)))) (sym c.numeral.ensures ∙ c.in_default.is)))
