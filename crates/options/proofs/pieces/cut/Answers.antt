use Rattle.std.proofs.Common.{◌==◌}
use Rattle.options.proofs.Cutting.{cut_parts}
use Rattle.options.proofs.pieces.cut.Goals as goal

pub returns-clause-parts : goal.returns-clause-parts
returns-clause-parts c =
    cut_parts (λ byte. byte == c.args.separator) c.args.text.now c.first_piece-front.result.now c.get.result c.first_piece-front.ensures c.get.ensures.lookup
