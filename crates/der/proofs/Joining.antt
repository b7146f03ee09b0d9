-- The first two arcs joined in one subidentifier, and taken apart again.
use Rattle.std.proofs.Common.{◌≡◌, ℕ, ◌-◌, ◌*◌, ◌≤◌, min, true, false, not, ltb, ap, ◌∙◌, arith}
use Rattle.std.proofs.lemmas.Bool.Decides.{nat_tests}
use Rattle.oid.specs.Arcs.{arc_limit, is_arc, arc_of}
use Rattle.oid.specs.Collected.{numeral_of}
use Rattle.oid.specs.Tree.{last_root, starts_well}
use Rattle.oid.specs.declared.numeral.Numeral.{Numeral}
use Rattle.oid.proofs.Arcs.{limit_room, limit_least}
use Rattle.der.specs.Subidentifiers.{joined_arcs, root_in, second_in, arc_number}
use Rattle.der.proofs.Digits.{cap}

-- what is counted for the root is not more than the subidentifier
pub root_below : (n : ℕ) → 40 * root_in n ≤ n
root_below n = grind (arith, nat_tests)

pub root_most : (n : ℕ) → root_in n ≤ last_root
root_most n = grind (arith, nat_tests)

pub root_two : (n : ℕ) → 80 ≤ n → root_in n ≡ 2
root_two n large = grind (arith, nat_tests)

-- taken apart and joined again
pub joined_again : (n : ℕ) → joined_arcs (root_in n) (second_in n) ≡ n
joined_again n = grind (arith, nat_tests)

pub starts_apart : (n : ℕ) → starts_well (root_in n) (second_in n) ≡ true
starts_apart n = grind (arith, nat_tests)

-- joined and taken apart again
pub root_joined : (first second : ℕ) → starts_well first second ≡ true → root_in (joined_arcs first second) ≡ first
root_joined first second h = grind (arith, nat_tests)

pub second_joined : (first second : ℕ) → starts_well first second ≡ true → second_in (joined_arcs first second) ≡ second
second_joined first second h = omega (arith, root_joined first second h)

-- the second arc passes the limit exactly when the first subidentifier passes the limit and 80
pub second_large : (n : ℕ) → not (is_arc (second_in n)) ≡ ltb (joined_arcs last_root arc_limit) n
second_large n = let least = limit_least in grind (arith, nat_tests)

pub root_arc : (n : ℕ) → is_arc (root_in n) ≡ true
root_arc n = let least = limit_least in grind (arith, nat_tests)

-- what is handed on of a subidentifier whose value was cut off at 64 bits: the numbers of its arcs, since such a value
-- stands for the same arcs, or for none
module _ (offset n value : ℕ) (capped : value ≡ min n cap) (numeral : Numeral) where
  same_arc : (m k : ℕ) → arc_of m ≡ arc_of k → numeral ≡ numeral_of (arc_number offset m) → numeral ≡ numeral_of (arc_number offset k)
  same_arc m k same e = e ∙ ap (λ arc. record { offset = offset; arc = arc; padded = false }) same

  pub later_numeral : numeral ≡ numeral_of (arc_number offset value) → numeral ≡ numeral_of (arc_number offset n)
  later_numeral = same_arc value n (let room = limit_room in grind (arith, nat_tests))

  module _ (root : ℕ) (is_root : root ≡ root_in value) where
    pub root_numeral : numeral ≡ numeral_of (arc_number offset root) → numeral ≡ numeral_of (arc_number offset (root_in n))
    root_numeral = same_arc root (root_in n) (let is : root ≡ root_in n = grind (arith, nat_tests) in ap arc_of is)

    pub second_numeral : numeral ≡ numeral_of (arc_number offset (value - 40 * root)) → numeral ≡ numeral_of (arc_number offset (second_in n))
    second_numeral = same_arc (value - 40 * root) (second_in n) (let room = limit_room in grind (arith, nat_tests))
