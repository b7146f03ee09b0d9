use Rattle.std.proofs.Common.{◌++◌, take}
use Rattle.std.specs.Fmt.{HasWritten, IsPlainFormatter}
use Rattle.std.specs.List.{flat_map}
use Rattle.input.specs.Hex.{pair_of}
use Rattle.input.proofs.shown.PairsDisplay.fmt.Given as goal

-- what was written behind the first pair
abbrev pub invariant-loop-byte : goal.invariant-loop-byte
invariant-loop-byte g l =
    IsPlainFormatter l.initial.f → HasWritten g.W.Write.write_str_gives l.initial.f (flat_map (λ byte. l.between ++ pair_of byte) (take l.byte-index l.others)) l.f
