-- A line, one byte more, and the last one.
use Rattle.std.proofs.Common.{◌≡◌, ℕ, ◌+◌, ◌<◌, ◌≤◌, min, true, false, eqb, leb, List, [], ◌∷◌, ◌++◌, length, take, sym, refl, ap, ◌∙◌, ⊎_elim, arith}
use Rattle.std.proofs.lemmas.List.{length_push, length-take, take_all, take-append-le}
use Rattle.std.proofs.lemmas.Bool.{both_ways, eqb-true, lt-leb, cases_lt}
use Rattle.input.specs.Lines.{last_line}

-- a line that keeps the first bytes that it took: as many as may be read, and one more
module _ (limit : ℕ) (bytes kept : List ℕ) (took : kept ≡ take (limit + 1) bytes) where
  count : length kept ≡ min (limit + 1) (length bytes)
  count = ap length took ∙ length-take (limit + 1) bytes

  pub whole_kept : length kept ≤ limit → kept ≡ bytes
  whole_kept short = took ∙ take_all (limit + 1) bytes (omega (arith, count))

  pub long_taken : limit < length kept → limit < length bytes
  long_taken long = omega (arith, count)

  pub same_whole : leb (length kept) limit ≡ leb (length bytes) limit
  same_whole = ⊎_elim
      (λ long. lt-leb (length kept) limit long ∙ sym (lt-leb (length bytes) limit (long_taken long)))
      (λ short. ap (λ l. leb (length l) limit) (whole_kept short))
      (cases_lt limit (length kept))

  module _ (byte : ℕ) where
    pub kept_more : length kept ≤ limit → kept ++ byte ∷ [] ≡ take (limit + 1) (bytes ++ byte ∷ [])
    kept_more short =
        let same = whole_kept short in
        ap (λ l. l ++ byte ∷ []) same
        ∙ sym (take_all (limit + 1) (bytes ++ byte ∷ []) (omega (arith, length_push bytes byte, ap length same)))

    pub kept_full : limit < length kept → kept ≡ take (limit + 1) (bytes ++ byte ∷ [])
    kept_full long = took ∙ sym (take-append-le (limit + 1) bytes (byte ∷ []) (omega (arith, count)))

-- a last line without a byte is none, and with any byte it is one
pub last_none : (bytes : List ℕ) → eqb (length bytes) 0 ≡ true → last_line bytes ≡ []
last_none [] e = refl
last_none (byte ∷ rest) e = let no : ⊥ = omega (arith, eqb-true (length (byte ∷ rest)) 0 e) in absurd no

pub last_some : (bytes : List ℕ) → eqb (length bytes) 0 ≡ false → last_line bytes ≡ bytes ∷ []
last_some [] e = absurd (both_ways true e refl)
last_some (byte ∷ rest) e = refl
