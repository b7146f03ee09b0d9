use Rattle.std.proofs.Common.{sym, ap, arith}
use Rattle.input.proofs.Digits.{unpaired_within}
use Rattle.sticker.specs.Answers.{chip_word, by_pairs}
use Rattle.sticker.proofs.judging.judge_digits.Goals as goal

pub overflow_add-result : goal.overflow_add-result
overflow_add-result c =
    omega (arith, unpaired_within c.args.digits.now c.in-Err.unpaired.offset (c.in-Err.ensures.few c.requires))

pub returns-in-Err : goal.returns-in-Err
unfolding chip_word
returns-in-Err c = ap (λ o. by_pairs o c.args.digits.now) (sym (c.in-Err.ensures.few c.requires))
