use Rattle.std.proofs.Common.{sym, ◌∙◌}
use Rattle.std.proofs.lemmas.Result.{IfOk-weaker}
use Rattle.input.proofs.Buffers.{empty_has}
use Rattle.wall.proofs.Begun.{from_founding}
use Rattle.wall.proofs.answering.answer_lines.Goals as goal

pub returns-clause-answered : goal.returns-clause-answered
returns-clause-answered g c =
    let contents = g.W.Write.contents in
    let begun = empty_has contents c.in_ok-buffered.buffered c.args.out c.in_ok-buffered.ensures.inner c.in_ok-buffered.ensures.empty in
    let long = sym c.in_ok-page.page.ok.0 ∙ c.in_ok-page.ensures.len in
    IfOk-weaker c.serve_lines-desk.result.1 _ _
    (λ output served. (served.0, served.1, from_founding _ _ c.founding-founding.ensures.founding _ _ _ c.in_ok-desk.ensures.led served.0 _ _ long _ _ _ begun served.2))
    c.serve_lines-desk.ensures.served
