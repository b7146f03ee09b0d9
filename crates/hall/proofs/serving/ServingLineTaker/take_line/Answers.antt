use Rattle.std.proofs.Common.{◌≡◌, ◌++◌, length, take, drop, ap}
use Rattle.std.specs.Io.Buffered.{writer_contents}
use Rattle.input.specs.Lines.{Took}
use Rattle.register.specs.Registers.{KeepsRest}
use Rattle.runs.specs.Desks.{register_of, book_at, rules_at}
use Rattle.hall.proofs.Taken.{one_taken, page_stays}
use Rattle.hall.proofs.serving.ServingLineTaker.take_line.Goals as goal

pub returns : goal.returns
returns g c =
    let self = c.args.self.now in
    let page = c.serve_line.new.page in
    one_taken (rules_at g.P.ArcRule.means g.A.ArcRule.means self.desk) (book_at self.desk) (length self.page.items) (book_at c.serve_line.new.desk)
    (writer_contents g.W.Write.contents self.out) (writer_contents g.W.Write.contents c.serve_line.new.out) c.serve_line.result (Took c.args.line.now)
    (KeepsRest (register_of self.desk) (register_of c.serve_line.new.desk))
    (length (take self.page.len (page ++ drop (length page) self.page.items)) ≡ length self.page.items)
    c.serve_line.ensures.rest
    (page_stays self.page.items c.deref_mut.result.now page self.page.len self.page.ok.0 c.deref_mut.ensures.value c.serve_line.ensures.page)
    (length c.deref_mut.result.now) (ap length c.deref_mut.ensures.value) (λ bytes took. c.serve_line.ensures.served bytes took)
