use Rattle.std.proofs.Common.{◌+◌, leb, length, decimal, sym, ap, ◌∙◌}
use Rattle.oid.proofs.Pages.{lent_after}
use Rattle.dotted.proofs.decimal.write_decimal.Goals as goal

pub returns-clause-after : goal.returns-clause-after
returns-clause-after c =
    let page = c.args.page.now in
    let long = ap (λ n. leb (c.args.place + n) (length page)) (sym c.digit_count-length.ensures.value) in
    lent_after c.args.place (decimal c.args.number) page c.write_number.new.page (long ∙ sym c.fits.ensures ∙ c.if-not-fits.false) c.write_number.ensures.after
