use Rattle.std.proofs.Common.{sym, ◌∙◌, arith}
use Rattle.input.proofs.Digits.{never_short, none_fit}
use Rattle.input.proofs.content.content_in.Goals as goal

pub returns-in_default-read_pairs-clause-few : goal.returns-in_default-read_pairs-clause-few
returns-in_default-read_pairs-clause-few c few =
    absurd (never_short c.args.digits.now c.args.page.now (omega (arith, c.fits-page)) c.in_default-read_pairs.ensures.value)

pub returns-clause-many : goal.returns-clause-many
returns-clause-many c many =
    none_fit c.args.digits.now c.args.page.now c.in-Some-read_pairs.count (sym c.first_unpaired.ensures ∙ c.in_default.is) (omega (arith, c.fits-page)) (sym c.in-Some-read_pairs.is ∙ c.read_pairs.ensures.value)
