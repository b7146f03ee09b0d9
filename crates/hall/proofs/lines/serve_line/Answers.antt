use Rattle.std.proofs.Common.{length}
use Rattle.runs.specs.Calls.{back_of}
use Rattle.runs.specs.Desks.{book_at, rules_at}
use Rattle.hall.proofs.Kept.{serves_kept}
use Rattle.hall.proofs.lines.serve_line.Goals as goal

pub returns-clause-served : goal.returns-clause-served
returns-clause-served g c bytes took =
    let back = back_of c.serve-back.result c.serve-back.new.page in
    let kept = c.kept.ensures bytes took in
    record {
      back = back;
      serves = serves_kept c.kept.result.now bytes kept (rules_at g.P.ArcRule.means g.A.ArcRule.means c.args.desk.now) (book_at c.args.desk.now) (length c.args.page.now) back (book_at c.serve-back.new.self) c.serve-back.ensures.serves;
      prints = c.print.ensures;
    }
