use Rattle.std.proofs.Common.{◌≡◌, length, nat_le, ◌∙◌, rules}
use Rattle.input.specs.Limits.{line_limit}
use Rattle.input.proofs.Taking.{same_whole}
use Rattle.input.proofs.line.Line.is_whole.Goals as goal

pub returns-clause-taken : goal.returns-clause-taken
returns-clause-taken c bytes took =
    let kept : nat_le c.len.result line_limit ≡ nat_le (length c.args.self.now) line_limit = search rules in
    kept ∙ same_whole line_limit bytes c.args.self.now took
