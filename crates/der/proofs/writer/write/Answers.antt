use Rattle.std.proofs.Common.{◌≡◌, ◌+◌, true, leb, length, sym, ap, ◌∙◌, subst}
use Rattle.oid.specs.Meaning.{arcs_of}
use Rattle.oid.specs.Pages.{fits}
use Rattle.oid.proofs.Pages.{lent_after, lent_between}
use Rattle.der.specs.Laws.{ReadsWhole}
use Rattle.der.specs.Writing.{der_bytes}
use Rattle.der.proofs.Theorems.{reads_whole}
use Rattle.der.proofs.writer.write.Goals as goal
use Rattle.der.proofs.writer.write.Goals.{After-write_encoding}

-- there was room for it
room : (c : After-write_encoding) → fits c.args.place (der_bytes (arcs_of c.args.identifier.now)) c.args.page.now ≡ true
room c = sym (c.if-not-fits.ensures ∙ ap (λ n. leb (c.args.place + n) (length c.args.page.now)) c.encoding_length.ensures.value)

pub returns-clause-after : goal.returns-clause-after
returns-clause-after c =
    lent_after c.args.place (der_bytes (arcs_of c.args.identifier.now)) c.args.page.now c.write_encoding.new.page (room (goal.at.returns-clause-after c).After-write_encoding) c.write_encoding.ensures.after

pub returns-clause-reads_back : goal.returns-clause-reads_back
returns-clause-reads_back c =
    let arcs = arcs_of c.args.identifier.now in
    let there = room (goal.at.returns-clause-reads_back c).After-write_encoding in
    subst (λ l. ReadsWhole l arcs)
    (sym (lent_between c.args.place (der_bytes arcs) c.args.page.now c.write_encoding.new.page there c.write_encoding.ensures.after _ c.write_encoding.ensures.value))
    (reads_whole arcs c.args.identifier.now.rule)
