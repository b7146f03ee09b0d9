use Rattle.std.proofs.Common.{ap, arith}
use Rattle.std.specs.Result.{result_unwrap_or}
use Rattle.der.proofs.Theorems.{taken_within}
use Rattle.sticker.proofs.judging.judge_content.Goals as goal

pub overflow_sub-result : goal.overflow_sub-result
overflow_sub-result c =
    omega (arith, ap (λ r. result_unwrap_or r 0) c.in_ok-taken.ensures.value, taken_within c.args.content.now)
