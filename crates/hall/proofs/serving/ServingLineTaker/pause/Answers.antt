use Rattle.std.proofs.Common.{◌≡◌, length, refl}
use Rattle.std.specs.Io.Buffered.{writer_contents}
use Rattle.register.specs.Registers.{KeepsRest}
use Rattle.runs.specs.Desks.{register_of, book_at, rules_at}
use Rattle.runs.proofs.Declining.{same_rest}
use Rattle.hall.proofs.Taken.{none_taken}
use Rattle.hall.proofs.serving.ServingLineTaker.pause.Goals as goal

pub returns : goal.returns
returns g c =
    let self = c.args.self.now in
    none_taken (rules_at g.P.ArcRule.means g.A.ArcRule.means self.desk) (book_at self.desk) (length self.page.items)
    (writer_contents g.W.Write.contents self.out) (writer_contents g.W.Write.contents c.flush.new.self) c.flush.ensures.bytes c.flush.result
    (KeepsRest (register_of self.desk) (register_of self.desk)) (length self.page.items ≡ length self.page.items) (same_rest (register_of self.desk)) refl
