use Rattle.std.proofs.Common.{sym, ◌∙◌}
use Rattle.register.proofs.FreeArcs.{no_more, free_now, all_taken}
use Rattle.register.proofs.register.Register.free_arc.Goals as goal

pub returns-in_default : goal.returns-in_default
returns-in_default g c = no_more _ _ c.loop-arc.asked c.loop-arc.invariant c.in_default.ensures.answers

pub returns-then-not-is_taken : goal.returns-then-not-is_taken
returns-then-not-is_taken g c =
    free_now _ _ c.loop-arc.asked c.loop-arc.invariant c.in-Some.arc c.in-Some.ensures.answers (sym c.if-not-is_taken.ensures)

pub returns-in_default-next_arc : goal.returns-in_default-next_arc
returns-in_default-next_arc g c =
    all_taken _ _ c.loop-arc.asked c.loop-arc.invariant c.in-Some.arc c.in-Some.ensures.answers (sym c.if-not-is_taken.ensures)
    (sym c.next_arc.ensures ∙ c.in_default-next_arc.is)
