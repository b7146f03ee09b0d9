-- Laws of the pairs that are printed, over the definitions that the contracts cite.
use Rattle.std.specs.Prelude.{◌≡◌, ℕ, ◌<◌, List, [], None, slice_index}
use Rattle.input.specs.Hex.{unpaired, pairs_in, pairs_of}

-- The pairs that write some bytes, with nothing between neighbours, are pairs of digits only, and write just these
-- bytes.
abbrev pub PairsReadBack : Type 0
PairsReadBack =
    (bytes : List ℕ)
    → ((i : ℕ) → slice_index bytes i < 256)
    → (unpaired (pairs_of [] bytes) ≡ None) × (pairs_in (pairs_of [] bytes) ≡ bytes)
