use Rattle.std.proofs.Common.{Ok, Err, length, sym, ap, ◌∙◌}
use Rattle.register.specs.Registers.{book_of, rules_of}
use Rattle.register.specs.Yes.{bytes_yes}
use Rattle.register.proofs.LineCalls.{first_on_page, first_serves}
use Rattle.register.proofs.register.Register.submit.Goals as goal

pub returns-in-Ok-Named-clause-page : goal.returns-in-Ok-Named-clause-page
returns-in-Ok-Named-clause-page g c room =
    let bytes = sym (ap (λ yes. bytes_yes (book_of c.answer.new.self) (length c.args.page.now) (Ok yes)) c.in-Ok-Named.field-0-is) ∙ c.in-Ok-Named.ensures.bytes (length c.args.page.now) in
    first_on_page (rules_of g.P.ArcRule.means g.A.ArcRule.means c.args.self.now) (book_of c.args.self.now) c.args.line.now c.args.page.now c.write_first_line.new.page
    (Ok c.in-Ok-Named.identifier) c.write_first_line.result room bytes c.write_first_line.ensures.value c.write_first_line.ensures.after c.write_first_line.auto.page _

pub returns-in-Ok-Named-clause-serves : goal.returns-in-Ok-Named-clause-serves
returns-in-Ok-Named-clause-serves g c =
    let bytes = sym (ap (λ yes. bytes_yes (book_of c.answer.new.self) (length c.args.page.now) (Ok yes)) c.in-Ok-Named.field-0-is) ∙ c.in-Ok-Named.ensures.bytes (length c.args.page.now) in
    first_serves (rules_of g.P.ArcRule.means g.A.ArcRule.means c.args.self.now) (book_of c.args.self.now) c.args.line.now c.args.page.now c.write_first_line.new.page
    (Ok c.in-Ok-Named.identifier) c.write_first_line.result (sym c.if-not-has_room.ensures) bytes c.write_first_line.ensures.value c.write_first_line.ensures.after c.write_first_line.auto.page
    (book_of c.answer.new.self) c.answer.ensures.book

pub returns-in-Err-clause-page : goal.returns-in-Err-clause-page
returns-in-Err-clause-page g c room =
    first_on_page (rules_of g.P.ArcRule.means g.A.ArcRule.means c.args.self.now) (book_of c.args.self.now) c.args.line.now c.args.page.now c.write_first_line-in-Err.new.page
    (Err c.in-Err.fault) c.write_first_line-in-Err.result room (c.in-Err.ensures.bytes (length c.args.page.now)) c.write_first_line-in-Err.ensures.value c.write_first_line-in-Err.ensures.after c.write_first_line-in-Err.auto.page _

pub returns-in-Err-clause-serves : goal.returns-in-Err-clause-serves
returns-in-Err-clause-serves g c =
    first_serves (rules_of g.P.ArcRule.means g.A.ArcRule.means c.args.self.now) (book_of c.args.self.now) c.args.line.now c.args.page.now c.write_first_line-in-Err.new.page
    (Err c.in-Err.fault) c.write_first_line-in-Err.result (sym c.if-not-has_room.ensures) (c.in-Err.ensures.bytes (length c.args.page.now)) c.write_first_line-in-Err.ensures.value c.write_first_line-in-Err.ensures.after c.write_first_line-in-Err.auto.page
    (book_of c.answer.new.self) c.answer.ensures.book
