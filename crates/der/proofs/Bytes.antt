-- Every number of an encoding is a byte.
use Rattle.std.proofs.Common.{◌≡◌, ℕ, zero, suc, true, List, [], ◌∷◌, ◌++◌, arith}
use Rattle.std.proofs.lemmas.List.{get_or_past}
use Rattle.digits.proofs.Steps.{digit_below}
use Rattle.oid.specs.Tree.{is_identifier}
use Rattle.der.specs.Base128.{base128}
use Rattle.der.specs.Laws.{Bytes}
use Rattle.der.specs.Writing.{subidentifiers_of, contents_of, der_bytes}
use Rattle.der.proofs.Contents.{written, contents_most}
use Rattle.der.proofs.Digits.{length_digits, higher_byte, last_byte}

-- a digit in base 128, with 80 added to it or not
number_bytes : (number : ℕ) → Bytes (base128 number)
number_bytes number i =
    grind (arith, digit_below 128 number i (omega arith), length_digits number, higher_byte number i, last_byte number i, get_or_past (base128 number) i 0)

-- bytes and further bytes
both_bytes : (front back : List ℕ) → Bytes front → Bytes back → Bytes (front ++ back)
both_bytes [] back first second i = second i
both_bytes (byte ∷ front) back first second zero = first 0
both_bytes (byte ∷ front) back first second (suc i) = both_bytes front back (λ k. first (suc k)) second i

written_bytes : (subidentifiers : List ℕ) → Bytes (written subidentifiers)
written_bytes [] i = omega arith
written_bytes (number ∷ others) i = both_bytes (base128 number) (written others) (number_bytes number) (written_bytes others) i

pub encoding_bytes : (arcs : List ℕ) → is_identifier arcs ≡ true → Bytes (der_bytes arcs)
unfolding der_bytes contents_of
encoding_bytes arcs h zero = omega arith
encoding_bytes arcs h (suc zero) = omega (arith, contents_most arcs h)
encoding_bytes arcs h (suc (suc i)) = written_bytes (subidentifiers_of arcs) i
