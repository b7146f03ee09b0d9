use Rattle.std.proofs.Common.{◌≡◌, ◌+◌, ◌*◌, ◌-◌, ◌^◌, min, ap, ◌∙◌, arith, rules}
use Rattle.std.specs.List.{fold}
use Rattle.oid.specs.Arcs.{arc_of}
use Rattle.oid.proofs.Arcs.{limit_room}
use Rattle.dotted.specs.Pieces.{decimal_value}
use Rattle.digits.proofs.Values.{value_capped}
use Rattle.dotted.proofs.Numerals.{arc_capped}
use Rattle.dotted.proofs.pieces.arc_in.Goals as goal

pub returns : goal.returns
returns c =
    let digits = c.args.digits.now in
    let folded : c.fold-number.result ≡ fold (λ value byte. min (value * 10 + (byte - 48)) (2 ^ 64 - 1)) 0 digits = search rules in
    c.arc_of.ensures ∙ ap arc_of (folded ∙ value_capped 10 (λ byte. byte - 48) (2 ^ 64 - 1) digits 0 0 (omega arith) (omega arith))
    ∙ arc_capped (2 ^ 64 - 1) (decimal_value digits) (omega (arith, limit_room))
