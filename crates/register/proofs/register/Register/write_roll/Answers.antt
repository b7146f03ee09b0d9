use Rattle.std.proofs.Common.{map, Ok, ap}
use Rattle.oid.specs.Meaning.{arcs_of}
use Rattle.request.specs.Answers.{child_of}
use Rattle.register.specs.Registers.{book_of}
use Rattle.register.specs.Yes.{shown}
use Rattle.register.proofs.RollLines.{first_rest, all_counted, on_page}
use Rattle.register.proofs.register.Register.write_roll.Goals as goal

pub write_children-next-requires : goal.write_children-next-requires
write_children-next-requires g c =
    let first = c.in_ok-length.ensures in
    first_rest (arcs_of c.args.authority.now) c.args.page.now c.args.authority.now.rule c.requires c.in_ok-length.length c.write_first_line.new.page first.value first.after

pub returns-clause-value : goal.returns-clause-value
returns-clause-value g c =
    let first = c.in_ok-length.ensures in
    let behind = c.write_children-next.ensures in
    ap Ok (all_counted (arcs_of c.args.authority.now) c.args.page.now c.args.authority.now.rule c.requires c.in_ok-length.length c.write_first_line.new.page first.value first.after
    (map child_of (shown (book_of c.args.self.now) (arcs_of c.args.authority.now) c.args.from)) c.write_children-next.result
    c.write_children-next.new.written.length c.write_children-next.new.page c.put_last.result c.put_last.new.self.length c.put_last.new.page
    behind.lines behind.rest behind.long behind.arc c.put_last.ensures)

pub returns-clause-page : goal.returns-clause-page
returns-clause-page g c =
    let first = c.in_ok-length.ensures in
    let behind = c.write_children-next.ensures in
    on_page (arcs_of c.args.authority.now) c.args.page.now c.args.authority.now.rule c.requires c.in_ok-length.length c.write_first_line.new.page first.value first.after
    (map child_of (shown (book_of c.args.self.now) (arcs_of c.args.authority.now) c.args.from)) c.write_children-next.result
    c.write_children-next.new.written.length c.write_children-next.new.page c.put_last.result c.put_last.new.self.length c.put_last.new.page
    behind.lines behind.rest behind.long behind.arc c.put_last.ensures
