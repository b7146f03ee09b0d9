use Rattle.std.proofs.Common.{sym, ◌∙◌}
use Rattle.std.proofs.lemmas.Bool.{cond-true}
use Rattle.oid.specs.Pages.{fits}
use Rattle.oid.proofs.Pages.{lent_after}
use Rattle.request.proofs.Putting.{wrote}
use Rattle.request.proofs.written.Written.put_bytes.Goals as goal

pub returns : goal.returns
returns c =
    let bytes = c.args.bytes.now in
    let before = c.args.self.now.length in
    let page = c.args.page.now in
    let room = sym c.fits.ensures ∙ c.if-not-fits.false in
    wrote bytes before page _ (lent_after before bytes page c.put_front.new.page room c.put_front.ensures) _ (sym (cond-true (fits before bytes page) _ _ room))
