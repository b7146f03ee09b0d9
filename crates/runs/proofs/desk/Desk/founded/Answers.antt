use Rattle.std.proofs.Common.{[], sym, ap, ◌∙◌, subst}
use Rattle.register.specs.Registers.{founding_of, book_of, serial_of}
use Rattle.runs.specs.Hands.{Hands}
use Rattle.runs.specs.Out.{held_in}
use Rattle.runs.proofs.Counts.{founded_hands}
use Rattle.runs.proofs.desk.Desk.founded.Goals as goal

pub invariant_of-result : goal.invariant_of-result
invariant_of-result g c =
    let register = c.in_ok-register.register in
    let book = ap (λ start. start.book) c.in_ok-register.ensures.start in
    let none = ap held_in c.in_ok-held.ensures.empty in
    let hands = subst (Hands (serial_of register) (book_of register)) (sym none)
    (subst (λ book. Hands (serial_of register) book []) (sym book)
    (founded_hands (serial_of register) (founding_of g.P.ArcRule.means g.A.ArcRule.means c.args.founding))) in
    record { own = hands.own; each_once = hands.each_once; as_many = hands.as_many; room = λ none. c.in_ok-held.ensures.room (c.refusal.ensures.value ∙ none) }
