use Rattle.std.proofs.Common.{◌-◌, ap, ◌∙◌}
use Rattle.book.specs.Left.{left}
use Rattle.register.proofs.register.Register.left_of.Goals as goal

pub returns : goal.returns
unfolding left
returns g c = c.saturating_sub.ensures ∙ ap (λ n. n - c.used_below.result) c.from.ensures ∙ ap (λ n. c.args.row.now.quota - n) c.used_below.ensures
