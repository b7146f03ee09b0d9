use Rattle.std.proofs.Common.{◌∙◌, ap, arith}
use Rattle.input.proofs.Table.{told, told_is}
use Rattle.input.proofs.hex.is_hex.Goals as goal

pub returns : goal.returns
returns c = ap told c.from.ensures ∙ told_is c.args.byte (omega arith)
