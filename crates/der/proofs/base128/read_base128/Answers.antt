use Rattle.std.proofs.Common.{◌≡◌, ◌+◌, ◌*◌, ◌-◌, ◌%◌, ◌^◌, min, ◌∙◌, arith, rules}
use Rattle.std.specs.List.{fold}
use Rattle.digits.proofs.Values.{value_capped}
use Rattle.der.specs.Base128.{digit_in}
use Rattle.der.proofs.base128.read_base128.Goals as goal

pub returns : goal.returns
returns c =
    let bytes = c.args.bytes.now in
    let folded : c.fold.result ≡ fold (λ value byte. min (value * 128 + byte % 128) (2 ^ 64 - 1)) 0 bytes = search rules in
    folded ∙ value_capped 128 digit_in (2 ^ 64 - 1) bytes 0 0 (omega arith) (omega arith)
