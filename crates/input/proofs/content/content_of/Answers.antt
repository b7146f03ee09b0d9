use Rattle.std.proofs.Common.{◌≤◌, length, ap, rules, arith}
use Rattle.input.proofs.Digits.{length_pairs}
use Rattle.input.proofs.content.content_of.Goals as goal

pub returns-clause-few : goal.returns-clause-few
returns-clause-few c few =
    let content = c.in_ok-content.ensures.few few in
    let short : length c.in_ok-content.content.now ≤ 2048 = omega (arith, length_pairs c.args.digits.now, ap length content.1) in
    search (rules, short, content)
