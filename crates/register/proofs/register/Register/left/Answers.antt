use Rattle.std.proofs.Common.{Ok, sym, ap, ◌∙◌}
use Rattle.std.proofs.lemmas.Bool.{cond-true, cond-false}
use Rattle.std.specs.Option.{option_map}
use Rattle.register.specs.Kept.{entry_of}
use Rattle.book.specs.Left.{left_of}
use Rattle.register.specs.Registers.{book_of}
use Rattle.register.proofs.register.Register.left.Goals as goal

pub returns-then-not-is_authority : goal.returns-then-not-is_authority
returns-then-not-is_authority g c =
    let there = sym c.entry.ensures ∙ ap (option_map entry_of) c.in-Some.is in
    sym (ap (λ entry. left_of entry (book_of c.args.self.now)) there ∙ cond-false _ _ _ (sym c.if-not-is_authority.ensures))

pub returns : goal.returns
returns g c =
    let there = sym c.entry.ensures ∙ ap (option_map entry_of) c.in-Some.is in
    ap Ok c.left_of.ensures
    ∙ sym (ap (λ entry. left_of entry (book_of c.args.self.now)) there ∙ cond-true _ _ _ (sym c.if-not-is_authority.ensures))
