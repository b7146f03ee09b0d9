use Rattle.std.proofs.Common.{sym, refl, ◌∙◌}
use Rattle.request.specs.Parts.{part_of, field_of}
use Rattle.request.proofs.Numbers.{no_number}
use Rattle.request.proofs.field.Field.number.Goals as goal

pub returns-in_default : goal.returns-in_default
returns-in_default c =
    (no_number (part_of c.part.result) (field_of c.args.self.now) c.part.ensures (sym c.numeral.ensures ∙ c.in_default.is), refl)
