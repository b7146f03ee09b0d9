-- The contents of an identifier's encoding: their parts, and how long they can be.
use Rattle.std.proofs.Common.{◌≡◌, ℕ, ◌+◌, ◌*◌, ◌<◌, ◌≤◌, true, List, [], ◌∷◌, ◌++◌, length, get_or, drop, sym, refl, ap, ◌∙◌, arith}
use Rattle.std.specs.List.{flat_map, sum_by}
use Rattle.std.proofs.lemmas.List.Concat.{length-flat_map}
use Rattle.std.proofs.lemmas.List.{at_drop_more, at_drop_all, length-append}
use Rattle.std.proofs.lemmas.Bool.{and_parts, leb-true}
use Rattle.std.proofs.lemmas.Bool.Decides.{nat_tests}
use Rattle.oid.specs.Arcs.{arc_limit, is_arc}
use Rattle.oid.specs.Tree.{last_root, starts_well, all_arcs, is_identifier}
use Rattle.oid.proofs.Arcs.{limit_digits}
use Rattle.oid.proofs.Tree.{Keeps, keeps}
use Rattle.der.specs.Base128.{base128}
use Rattle.der.specs.Header.{tag, most_contents}
use Rattle.der.specs.Subidentifiers.{joined_arcs}
use Rattle.der.specs.Writing.{subidentifiers_of, contents_of, der_bytes}
use Rattle.der.proofs.Digits.{length-base128-le}

-- subidentifiers in base 128, one after the other
abbrev pub written : List ℕ → List ℕ
written subidentifiers = flat_map base128 subidentifiers

pub contents_written : (arcs : List ℕ) → contents_of arcs ≡ written (subidentifiers_of arcs)
unfolding contents_of
contents_written arcs = refl

-- the subidentifiers from i on, one by one
module _ (subs : List ℕ) (i : ℕ) where
  pub written_more : i < length subs → written (drop i subs) ≡ base128 (get_or subs i 0) ++ written (drop (i + 1) subs)
  written_more inside = at_drop_more written subs i 0 inside

  pub length_more : i < length subs
      → length (written (drop i subs)) ≡ length (base128 (get_or subs i 0)) + length (written (drop (i + 1) subs))
  length_more inside =
      ap length (written_more inside) ∙ length-append (base128 (get_or subs i 0)) (written (drop (i + 1) subs))

  pub written_none : length subs ≤ i → written (drop i subs) ≡ []
  written_none past = at_drop_all written subs i past

-- the contents of which a first subidentifier and the others are known
pub contents_are : (arcs : List ℕ) (first : ℕ) (others : List ℕ) → first ∷ others ≡ subidentifiers_of arcs
    → contents_of arcs ≡ base128 first ++ written others
contents_are arcs first others is = contents_written arcs ∙ ap written (sym is)

-- how many bytes a number has, and how many they have together
abbrev pub count_bytes : ℕ → ℕ
count_bytes n = length (base128 n)

pub length_are : (arcs : List ℕ) (first : ℕ) (others : List ℕ) → first ∷ others ≡ subidentifiers_of arcs
    → length (contents_of arcs) ≡ count_bytes first + sum_by count_bytes others
length_are arcs first others is =
    ap length (contents_are arcs first others is) ∙ length-append (base128 first) (written others)
    ∙ ap (λ n. count_bytes first + n) (length-flat_map base128 others)

-- an identifier's subidentifiers: its first two arcs joined, and the others
pub subs_are : (arcs : List ℕ) → 2 ≤ length arcs
    → joined_arcs (get_or arcs 0 0) (get_or arcs 1 0) ∷ drop 2 arcs ≡ subidentifiers_of arcs
subs_are [] h = absurd (omega arith)
subs_are (first ∷ []) h = absurd (omega arith)
subs_are (first ∷ (second ∷ others)) h = refl

-- one subidentifier less than arcs
pub length_subs : (arcs : List ℕ) → 2 ≤ length arcs → length (subidentifiers_of arcs) + 1 ≡ length arcs
length_subs [] h = absurd (omega arith)
length_subs (first ∷ []) h = absurd (omega arith)
length_subs (first ∷ (second ∷ others)) h = omega arith

-- no subidentifier of an identifier has more than 8 bytes
sub_most : (n : ℕ) → n ≤ joined_arcs last_root arc_limit → length (base128 n) ≤ 8
sub_most n h = length-base128-le 7 n (omega (arith, limit_digits))

later_most : (arcs : List ℕ) → all_arcs arcs ≡ true → length (written arcs) ≤ 8 * length arcs
unfolding all_arcs
later_most [] h = omega arith
later_most (arc ∷ arcs) h =
    let parts = and_parts (is_arc arc) (all_arcs arcs) h in
    let few = sub_most arc (omega (arith, leb-true arc arc_limit parts.0)) in
    omega (arith, length-append (base128 arc) (written arcs), later_most arcs parts.1)

root_few : (first second : ℕ) → starts_well first second ≡ true → first ≤ last_root
root_few first second h = grind (arith, nat_tests)

-- the contents of an identifier are so short that one byte tells their length
pub contents_most : (arcs : List ℕ) → is_identifier arcs ≡ true → length (contents_of arcs) ≤ most_contents
unfolding contents_of all_arcs
contents_most arcs h = go arcs (keeps arcs h)
  where
    go : (list : List ℕ) → Keeps list → length (written (subidentifiers_of list)) ≤ most_contents
    go [] k = omega arith
    go (first ∷ []) k = omega arith
    go (first ∷ (second ∷ others)) k =
        let one = and_parts (is_arc first) (all_arcs (second ∷ others)) k.each in
        let two = and_parts (is_arc second) (all_arcs others) one.1 in
        let small = leb-true second arc_limit two.0 in
        let few = root_few first second k.start in
        let first_few = sub_most (joined_arcs first second) (omega arith) in
        omega (arith, k.short, length-append (base128 (joined_arcs first second)) (written others), later_most others two.1)

-- the whole encoding
pub bytes_are : (arcs : List ℕ) → der_bytes arcs ≡ (tag ∷ (length (contents_of arcs) ∷ [])) ++ contents_of arcs
unfolding der_bytes
bytes_are arcs = refl

pub length_bytes : (arcs : List ℕ) → length (der_bytes arcs) ≡ 2 + length (contents_of arcs)
length_bytes arcs = omega (arith, ap length (bytes_are arcs))
