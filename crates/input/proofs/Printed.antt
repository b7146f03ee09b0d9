-- The pairs that are printed of some bytes, read.
use Rattle.std.proofs.Common.{◌≡◌, ℕ, suc, ◌*◌, ◌/◌, ◌%◌, ◌<◌, false, List, [], ◌∷◌, ◌++◌, length, get_or, refl, arith}
use Rattle.std.specs.List.{flat_map, position_or_len}
use Rattle.std.proofs.lemmas.Bool.Decides.{nat_tests}
use Rattle.input.specs.Hex.{is_stray, hex_value, pairs_in, digit_of, pair_of, pairs_of}
use Rattle.input.specs.Laws.{PairsReadBack}

-- the digit that writes a value is a digit, and has that value
digit_fits : (value : ℕ) → value < 16 → is_stray (digit_of value) ≡ false
digit_fits value h = grind (arith, nat_tests)

digit_back : (value : ℕ) → value < 16 → hex_value (digit_of value) ≡ value
digit_back value h = grind (arith, nat_tests)

-- the pairs that write some bytes: they are digits only, two for each byte, and are read as these
pub record Written (bytes pairs : List ℕ) : Type 0 where
  pub digits : position_or_len is_stray pairs ≡ length pairs
  pub long : length pairs ≡ 2 * length bytes
  pub back : pairs_in pairs ≡ bytes

pair_more : (byte : ℕ) (bytes pairs : List ℕ) → byte < 256 → Written bytes pairs → Written (byte ∷ bytes) (pair_of byte ++ pairs)
unfolding pairs_in
pair_more byte bytes pairs small h =
    let high = digit_fits (byte / 16) (omega arith) in
    let low = digit_fits (byte % 16) (omega arith) in
    let high_back = digit_back (byte / 16) (omega arith) in
    let low_back = digit_back (byte % 16) (omega arith) in
    record {
      digits = rw (high, low) (omega (arith, h.digits));
      long = omega (arith, h.long);
      back = rw (high_back, low_back) (grind (arith, h.back));
    }

written : (bytes : List ℕ) → ((i : ℕ) → get_or bytes i 0 < 256) → Written bytes (flat_map pair_of bytes)
unfolding pairs_in
written [] each = record { digits = refl; long = refl; back = refl }
written (byte ∷ bytes) each = pair_more byte bytes (flat_map pair_of bytes) (each 0) (written bytes (λ i. each (suc i)))

pub printed : (bytes : List ℕ) → ((i : ℕ) → get_or bytes i 0 < 256) → Written bytes (pairs_of [] bytes)
printed [] each = written [] each
printed (byte ∷ bytes) each = written (byte ∷ bytes) each

pub pairs_read_back : PairsReadBack
pairs_read_back bytes each = let h = printed bytes each in (grind (arith, nat_tests, h.digits, h.long), h.back)
