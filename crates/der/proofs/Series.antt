-- Contents, series by series.
use Rattle.std.proofs.Common.{◌≡◌, ℕ, suc, ◌+◌, ◌/◌, ◌%◌, ◌<◌, ◌≤◌, Bool, true, false, cond, not, eqb, List, [], ◌∷◌, ◌++◌, map, length, get_or, take, drop, Some, None, Option, MatchOption, sym, refl, ap, ◌∙◌, arith}
use Rattle.std.specs.List.{find, position, position_or_len}
use Rattle.std.specs.Option.{option_map}
use Rattle.std.proofs.lemmas.List.{append_assoc, append-nil}
use Rattle.std.proofs.lemmas.Bool.{eqb-true, eqb-false}
use Rattle.oid.specs.Numbers.{Number, first_at}
use Rattle.der.specs.Base128.{more, is_last, value_of, base128, first_series}
use Rattle.std.specs.Int.Digits.{digits_of}
use Rattle.std.proofs.lemmas.Bool.Decides.{nat_tests}
use Rattle.std.proofs.lemmas.Grind.{common_steps}
use Rattle.der.specs.Subidentifiers.{Series, series_from, number_in, subidentifiers_from, root_in, second_in, arc_number, later_arc, arc_numbers}
use Rattle.der.specs.declared.subidentifiers.Subidentifier.{Subidentifier}

abbrev pub series : ℕ → List ℕ → Series
series offset bytes = record { offset = offset; bytes = bytes }

-- the first series goes up to the first byte that can be a last one
first_series_is : (bytes : List ℕ) → first_series bytes ≡ take (suc (position_or_len is_last bytes)) bytes
unfolding first_series
first_series_is [] = refl
first_series_is (byte ∷ rest) = go (is_last byte) (first_series_is rest)
  where
    go : (v : Bool) → first_series rest ≡ take (suc (position_or_len is_last rest)) rest
        → cond v (byte ∷ []) (byte ∷ first_series rest) ≡ byte ∷ take (cond (not v) (1 + position_or_len is_last rest) 0) rest
    go true e = refl
    go false e = grind (arith, common_steps)

-- it lies within the bytes, and is some bytes where there are any
pub first_within : (bytes : List ℕ) → length (first_series bytes) ≤ length bytes
first_within bytes = let is = ap length (first_series_is bytes) in grind (arith, common_steps)

pub first_some : (bytes : List ℕ) → 0 < length bytes → 0 < length (first_series bytes)
first_some bytes some = let is = ap length (first_series_is bytes) in grind (arith, common_steps)

-- what a search for that byte tells: where the first series ends, and what follows begins
pub series_found : (bytes : List ℕ) (found : Option ℕ) → found ≡ position is_last bytes
    → MatchOption found ((bytes ≡ first_series bytes) × ([] ≡ drop (length (first_series bytes)) bytes)) (λ last. (take (last + 1) bytes ≡ first_series bytes) × (drop (last + 1) bytes ≡ drop (length (first_series bytes)) bytes))
series_found bytes None e = let is = first_series_is bytes in grind (arith, nat_tests, common_steps)
series_found bytes (Some last) e = let is = first_series_is bytes in grind (arith, nat_tests, common_steps)

-- the bytes of a number, and what follows them
first_higher : (digits : List ℕ) (byte : ℕ) (rest : List ℕ) → byte < more
    → first_series ((map (λ digit. more + digit) digits ++ byte ∷ []) ++ rest) ≡ map (λ digit. more + digit) digits ++ byte ∷ []
unfolding first_series
first_higher [] byte rest last = grind (arith, nat_tests)
first_higher (digit ∷ digits) byte rest last = let others = first_higher digits byte rest last in grind (arith, nat_tests)

pub first_base128 : (n : ℕ) (rest : List ℕ) → first_series (base128 n ++ rest) ≡ base128 n
unfolding base128
first_base128 n rest = first_higher (digits_of 128 (n / 128)) (n % 128) rest (omega arith)

-- the first series, and those of what follows
pub series_next : (offset : ℕ) (bytes : List ℕ) → 0 < length bytes
    → series_from offset bytes ≡ series offset (first_series bytes) ∷ series_from (offset + length (first_series bytes)) (drop (length (first_series bytes)) bytes)
unfolding first_series series_from
series_next offset [] h = absurd (omega arith)
series_next offset (byte ∷ []) h = grind (arith, nat_tests)
series_next offset (byte ∷ (next ∷ rest)) h =
    let others = series_next (offset + 1) (next ∷ rest) (omega arith) in grind (arith, nat_tests)

pub subs_next : (offset : ℕ) (bytes : List ℕ) → 0 < length bytes
    → subidentifiers_from offset bytes ≡ number_in (series offset (first_series bytes)) ∷ subidentifiers_from (offset + length (first_series bytes)) (drop (length (first_series bytes)) bytes)
subs_next offset bytes h = ap (map number_in) (series_next offset bytes h)

-- the same of what is known as the first series, and as what follows it
pub series_split : (offset : ℕ) (bytes front back : List ℕ) → false ≡ eqb (length bytes) 0 → front ≡ first_series bytes
    → back ≡ drop (length (first_series bytes)) bytes
    → series_from offset bytes ≡ series offset front ∷ series_from (offset + length front) back
series_split offset bytes front back some is rest =
    series_next offset bytes (omega (arith, eqb-false (length bytes) 0 (sym some)))
    ∙ sym (λ k. series offset (is k) ∷ series_from (offset + length (is k)) (rest k))

pub series_none : (offset : ℕ) (bytes : List ℕ) → true ≡ eqb (length bytes) 0 → series_from offset bytes ≡ []
unfolding series_from
series_none offset [] none = refl
series_none offset (byte ∷ rest) none = absurd (omega (arith, eqb-true (length (byte ∷ rest)) 0 (sym none)))

-- a subidentifier as the code holds it
abbrev pub series_of : Subidentifier → Series
series_of subidentifier = series subidentifier.offset subidentifier.bytes.now

abbrev pub first_is_80 : Series → Bool
first_is_80 series = eqb (get_or series.bytes 0 0) more

-- the search for the first number with a leading zero is one for the first series that begins with 80
pub padded_found : (series : List Series)
    → first_at (λ number. number.padded) (map number_in series) ≡ option_map (λ found. found.offset) (find first_is_80 series)
unfolding first_at
padded_found [] = refl
padded_found (first ∷ others) = let rest = padded_found others in grind (arith, nat_tests)

pub offset_of : (found : Option Subidentifier)
    → option_map (λ subidentifier. subidentifier.offset) found ≡ option_map (λ series. series.offset) (option_map series_of found)
offset_of None = refl
offset_of (Some subidentifier) = refl

-- the arcs that the first series stands for, and those of the others; then one more series at a time, up to the end
module _ (at : ℕ) (bytes : List ℕ) (all rest : List Series) (is : all ≡ series at bytes ∷ rest) where
  pub arcs_first : arc_number at (root_in (value_of bytes)) ∷ (arc_number at (second_in (value_of bytes)) ∷ map later_arc (map number_in rest)) ≡ arc_numbers (map number_in all)
  arcs_first = ap (λ l. arc_numbers (map number_in l)) (sym is)

  pub arcs_more : (done : List Number)
      → (done ++ arc_number at (value_of bytes) ∷ []) ++ map later_arc (map number_in rest) ≡ done ++ map later_arc (map number_in all)
  arcs_more done = append_assoc done _ _ ∙ ap (λ l. done ++ map later_arc (map number_in l)) (sym is)

pub arcs_end : (done : List Number) (all : List Series) → all ≡ [] → done ++ map later_arc (map number_in all) ≡ done
arcs_end done all none = ap (λ l. done ++ map later_arc (map number_in l)) none ∙ append-nil done
