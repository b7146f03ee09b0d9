-- Numbers in base 128: their bytes, how many there are, and the number back from them.
use Rattle.std.proofs.Common.{◌≡◌, ℕ, suc, ◌+◌, ◌-◌, ◌*◌, ◌/◌, ◌%◌, ◌^◌, ◌<◌, ◌≤◌, false, eqb, List, [], ◌∷◌, ◌++◌, map, length, get_or, sym, refl, ap, ◌∙◌, ⊎_elim, append_assoc, arith}
use native.Mathlib.Nat.{pow-succ'}
use Rattle.std.specs.Int.Digits.{digits_of, number_from_digits_after, number_from_digits, AllBelowBase}
use Rattle.std.proofs.lemmas.Int.Digits.{digits_of_step, length-digits_of-le, all_below_base_digits_of, first_digits_of, number_push, number_lt, number_digits_of}
use Rattle.std.proofs.lemmas.List.{map_push, length-map, length_push}
use Rattle.std.proofs.lemmas.Bool.{cases_lt, eqb-false}
use Rattle.std.proofs.lemmas.Bool.Decides.{nat_tests}
use Rattle.std.proofs.lemmas.Grind.{common_steps}
use Rattle.digits.specs.Digits.{digits_in}
use Rattle.der.specs.Base128.{more, digit_in, value_of, base128}

-- the byte that stands for a digit before the last
abbrev pub marked : ℕ → ℕ
marked digit = more + digit

-- the digits of a number, with 80 added to each: what stands before the last byte
abbrev pub higher : ℕ → List ℕ
higher n = map marked (digits_of 128 n)

pub higher_step : (n : ℕ) → 0 < n → higher n ≡ higher (n / 128) ++ ((128 + n % 128) ∷ [])
higher_step n h =
    ap (map (λ digit. more + digit)) (digits_of_step 128 n (omega arith) h)
    ∙ map_push (λ digit. more + digit) (digits_of 128 (n / 128)) (n % 128)

pub base128_is : (n : ℕ) → base128 n ≡ higher (n / 128) ++ (n % 128 ∷ [])
unfolding base128
base128_is n = refl

-- the digits before the last, and the last
pub digits_split : (n : ℕ) → digits_in 128 n ≡ digits_of 128 (n / 128) ++ (n % 128 ∷ [])
unfolding digits_in
digits_split n = refl

-- a byte for each digit before the last, and one for the last
pub length-base128 : (n : ℕ) → length (base128 n) ≡ length (higher (n / 128)) + 1
length-base128 n = ap length (base128_is n) ∙ length_push (higher (n / 128)) (n % 128)

-- as many bytes as digits
pub length_digits : (n : ℕ) → length (digits_in 128 n) ≡ length (base128 n)
unfolding digits_in base128
length_digits n = grind (arith, common_steps)

pub some_bytes : (n : ℕ) → 0 < length (base128 n)
unfolding base128
some_bytes n = grind (arith, common_steps)

-- a number of at most k digits more than one
pub length-base128-le : (k n : ℕ) → n / 128 < 128 ^ k → length (base128 n) ≤ k + 1
unfolding base128
length-base128-le k n h = let few = length-digits_of-le 128 k (n / 128) (omega arith) h in grind (arith, common_steps)

-- no number of 64 bits has more bytes
pub length_most : (n : ℕ) → n < 2 ^ 64 → length (base128 n) ≤ 10
length_most n fits = length-base128-le 9 n (omega arith)

-- each byte is a digit, with 80 added to it or, at the last, without
pub higher_byte : (n i : ℕ) → i + 1 < length (digits_in 128 n) → get_or (base128 n) i 0 ≡ 128 + get_or (digits_in 128 n) i 0
unfolding digits_in base128
higher_byte n i h = grind (arith, common_steps)

pub last_byte : (n i : ℕ) → i + 1 ≡ length (digits_in 128 n) → get_or (base128 n) i 0 ≡ get_or (digits_in 128 n) i 0
unfolding digits_in base128
last_byte n i h = grind (arith, common_steps)

-- the largest number of 64 bits
abbrev pub cap : ℕ
cap = 2 ^ 64 - 1

-- the digits come back from the bytes
digits_back : (digits : List ℕ) → AllBelowBase 128 digits → map digit_in (map (λ digit. more + digit) digits) ≡ digits
digits_back [] h = refl
digits_back (digit ∷ digits) h =
    let here : (more + digit) % 128 ≡ digit = omega (arith, h.0) in
    λ k. here k ∷ digits_back digits h.1 k

pub value_base128 : (n : ℕ) → value_of (base128 n) ≡ n
value_base128 n =
    let q = n / 128 in
    let last : n % 128 % 128 ≡ n % 128 = omega arith in
    let back = digits_back (digits_of 128 q) (all_below_base_digits_of 128 q (omega arith)) in
    ap value_of (base128_is n) ∙ ap (number_from_digits 128) (map_push digit_in (higher q) (n % 128))
    ∙ (λ k. number_from_digits 128 (back k ++ (last k ∷ [])))
    ∙ number_push 128 (digits_of 128 q) (n % 128)
    ∙ omega (arith, number_digits_of 128 q (omega arith))

-- no number begins with a needless digit
unpadded : (digits last : List ℕ) → 0 < get_or digits 0 0 → eqb (get_or (map (λ digit. more + digit) digits ++ last) 0 0) more ≡ false
unpadded [] last some = grind (arith, nat_tests)
unpadded (digit ∷ digits) last some = grind (arith, nat_tests)

pub base128_unpadded : (n : ℕ) → eqb (get_or (base128 n) 0 0) more ≡ false
unfolding base128
base128_unpadded n = ⊎_elim
    (λ some. unpadded (digits_of 128 (n / 128)) (n % 128 ∷ []) (first_digits_of 128 (n / 128) (omega arith) some))
    (λ none. let zero : n / 128 ≡ 0 = omega arith in ap (λ q. eqb (get_or (higher q ++ (n % 128 ∷ [])) 0 0) more) zero ∙ grind (arith, nat_tests))
    (cases_lt 0 (n / 128))

-- the bytes of one number: 80 is added to each but the last
abbrev pub SeriesOfOne : List ℕ → Type 0
SeriesOfOne [] = ⊥
SeriesOfOne (byte ∷ []) = byte < 128
SeriesOfOne (byte ∷ (next ∷ rest)) = (128 ≤ byte) × (byte < 256) × SeriesOfOne (next ∷ rest)

-- such bytes behind the higher digits of a number are the bytes of the number with their digits behind it
after_higher : (bytes : List ℕ) (n : ℕ) → SeriesOfOne bytes → 0 < n
    → higher n ++ bytes ≡ base128 (number_from_digits_after 128 n (map digit_in bytes))
after_higher [] n h some = absurd h
after_higher (byte ∷ []) n h some =
    let m = n * 128 + byte % 128 in
    let q : n ≡ m / 128 = omega arith in
    let r : byte ≡ m % 128 = omega arith in
    (λ k. higher (q k) ++ (r k ∷ [])) ∙ sym (base128_is m)
after_higher (byte ∷ (next ∷ rest)) n h some =
    let m = n * 128 + byte % 128 in
    let q : n ≡ m / 128 = omega arith in
    let r : byte ≡ 128 + m % 128 = omega (arith, h.0, h.1) in
    sym (append_assoc (higher n) (byte ∷ []) (next ∷ rest))
    ∙ (λ k. (higher (q k) ++ (r k ∷ [])) ++ (next ∷ rest))
    ∙ ap (λ l. l ++ (next ∷ rest)) (sym (higher_step m (omega arith)))
    ∙ after_higher (next ∷ rest) m h.2 (omega arith)

-- bytes of one number that do not begin with 80 are the bytes of their value
pub base128_value : (bytes : List ℕ) → SeriesOfOne bytes → eqb (get_or bytes 0 0) more ≡ false → bytes ≡ base128 (value_of bytes)
base128_value [] h fresh = absurd h
base128_value (byte ∷ []) h fresh =
    let m = 0 * 128 + byte % 128 in
    let r : byte ≡ m % 128 = omega arith in
    let none : m / 128 ≡ 0 = omega arith in
    ap (λ n. n ∷ []) r ∙ sym (ap (λ q. higher q ++ (m % 128 ∷ [])) none) ∙ sym (base128_is m)
base128_value (byte ∷ (next ∷ rest)) h fresh =
    let m = 0 * 128 + byte % 128 in
    let other : byte ≡ more → ⊥ = eqb-false byte more fresh in
    let some : 0 < m = omega (arith, h.0, h.1, other) in
    let whole : byte ≡ 128 + m % 128 = omega (arith, h.0, h.1) in
    let none : m / 128 ≡ 0 = omega arith in
    let first : byte ∷ [] ≡ higher m =
    ap (λ n. n ∷ []) whole ∙ sym (higher_step m some ∙ ap (λ q. higher q ++ (128 + m % 128) ∷ []) none) in
    ap (λ l. l ++ (next ∷ rest)) first ∙ after_higher (next ∷ rest) m h.2 some

-- digits are below the base
under_digits : (bytes : List ℕ) → AllBelowBase 128 (map digit_in bytes)
under_digits [] = tt
under_digits (byte ∷ bytes) = (omega arith, under_digits bytes)

-- no other bytes that stand for a number are fewer
pub fewest : (n : ℕ) (bytes : List ℕ) → 0 < length bytes → value_of bytes ≡ n → length (base128 n) ≤ length bytes
fewest n [] some e = absurd (omega arith)
fewest n (byte ∷ bytes) some e =
    let small = number_lt 128 (map digit_in (byte ∷ bytes)) (under_digits (byte ∷ bytes)) in
    let long = length-map bytes digit_in in
    let power : 128 ^ length (map digit_in (byte ∷ bytes)) ≡ 128 * 128 ^ length bytes =
    ap (λ k. 128 ^ suc k) long ∙ pow-succ' 128 (length bytes) in
    omega (arith, length-base128-le (length bytes) n (omega arith))
