use Rattle.std.proofs.Common.{length, refl, sym, ap, ◌∙◌}
use Rattle.std.specs.Io.Buffered.{writer_contents}
use Rattle.counter.specs.Reading.{is_counter, read_call}
use Rattle.register.specs.Registers.{refusal_of}
use Rattle.runs.specs.Desks.{register_of, book_at, rules_at}
use Rattle.desk.specs.Answers.{told_at, book_after}
use Rattle.desk.proofs.Steps.{on_ok_by, ok_gives, counter_book, counter_at, request_book, request_at}
use Rattle.desk.proofs.lines.answer_line.Goals as goal

pub returns-then-is_counter-clause-book : goal.returns-then-is_counter-clause-book
returns-then-is_counter-clause-book g c bytes state took at =
    let desk = c.args.desk.now in
    let rules = rules_at g.P.ArcRule.means g.A.ArcRule.means desk in
    let is = sym (ap is_counter (c.kept.ensures bytes took)) ∙ sym c.is_counter.ensures ∙ c.if-is_counter.true in
    let call = c.read.ensures ∙ ap read_call (c.kept-then-is_counter.ensures bytes took) in
    counter_book g.P.ArcRule.means g.A.ArcRule.means desk c.answer-told.new.desk (length c.args.page.now) (length c.args.page.now)
    (writer_contents g.W.Write.contents c.args.out.now) (writer_contents g.W.Write.contents c.writeln.new.self) state at
    c.answer-told.ensures.rest refl bytes is c.answer-told.result
    (c.answer-told.ensures.told ∙ ap (told_at rules (refusal_of (register_of desk)) (book_at desk)) call)
    (c.answer-told.ensures.book ∙ ap (book_after rules (book_at desk)) call)

pub returns-then-is_counter-clause-served : goal.returns-then-is_counter-clause-served
returns-then-is_counter-clause-served g c =
    on_ok_by c.writeln.result (λ done written bytes state took at.
    let desk = c.args.desk.now in
    let rules = rules_at g.P.ArcRule.means g.A.ArcRule.means desk in
    let is = sym (ap is_counter (c.kept.ensures bytes took)) ∙ sym c.is_counter.ensures ∙ c.if-is_counter.true in
    let call = c.read.ensures ∙ ap read_call (c.kept-then-is_counter.ensures bytes took) in
    counter_at g.P.ArcRule.means g.A.ArcRule.means desk c.answer-told.new.desk (length c.args.page.now) (length c.args.page.now)
    (writer_contents g.W.Write.contents c.args.out.now) (writer_contents g.W.Write.contents c.writeln.new.self) state at
    c.answer-told.ensures.rest refl bytes is c.answer-told.result
    (c.answer-told.ensures.told ∙ ap (told_at rules (refusal_of (register_of desk)) (book_at desk)) call)
    (c.answer-told.ensures.book ∙ ap (book_after rules (book_at desk)) call) (ok_gives c.writeln.result done written c.writeln.ensures.bytes))

pub returns-else-is_counter-clause-book : goal.returns-else-is_counter-clause-book
returns-else-is_counter-clause-book g c bytes state took at =
    let is = sym (ap is_counter (c.kept.ensures bytes took)) ∙ sym c.is_counter.ensures ∙ c.if-is_counter.false in
    request_book g.P.ArcRule.means g.A.ArcRule.means c.args.desk.now c.serve_line.new.desk (length c.args.page.now) (length c.serve_line.new.page)
    (writer_contents g.W.Write.contents c.args.out.now) (writer_contents g.W.Write.contents c.serve_line.new.out) state at
    c.serve_line.ensures.rest c.serve_line.ensures.page bytes is c.serve_line.result (c.serve_line.ensures.served bytes took)

pub returns-else-is_counter-clause-served : goal.returns-else-is_counter-clause-served
returns-else-is_counter-clause-served g c =
    on_ok_by c.serve_line.result (λ done written bytes state took at.
    let is = sym (ap is_counter (c.kept.ensures bytes took)) ∙ sym c.is_counter.ensures ∙ c.if-is_counter.false in
    let by_desk = c.serve_line.ensures.served bytes took in
    request_at g.P.ArcRule.means g.A.ArcRule.means c.args.desk.now c.serve_line.new.desk (length c.args.page.now) (length c.serve_line.new.page)
    (writer_contents g.W.Write.contents c.args.out.now) (writer_contents g.W.Write.contents c.serve_line.new.out) state at
    c.serve_line.ensures.rest c.serve_line.ensures.page bytes is c.serve_line.result by_desk (ok_gives c.serve_line.result done written by_desk.prints))
