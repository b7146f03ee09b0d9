-- The text of an identifier: its parts, and how long it can be.
use Rattle.std.proofs.Common.{◌≡◌, ℕ, suc, ◌+◌, ◌*◌, ◌^◌, ◌<◌, ◌≤◌, true, List, [], ◌∷◌, ◌++◌, length, get_or, drop, decimal, sym, ◌∙◌, arith}
use Rattle.std.specs.List.{flat_map, sum_by}
use Rattle.std.proofs.lemmas.List.{at_drop_more, length-append}
use Rattle.std.proofs.lemmas.List.Concat.{length-flat_map}
use Rattle.std.proofs.lemmas.Bool.{and_parts, leb-true}
use Rattle.oid.specs.Arcs.{arc_limit, is_arc}
use Rattle.oid.specs.Tree.{all_arcs, is_identifier}
use Rattle.oid.proofs.Arcs.{limit_room}
use Rattle.oid.proofs.Tree.{Keeps, keeps}
use Rattle.dotted.specs.Writing.{after_dot, dotted_text, text_limit}
use Rattle.dotted.proofs.Digits.{length_most}

abbrev pub later_arcs : List ℕ → List ℕ
later_arcs arcs = flat_map after_dot arcs

pub text_first : (arcs : List ℕ) → 0 < length arcs → dotted_text arcs ≡ decimal (get_or arcs 0 0) ++ later_arcs (drop 1 arcs)
unfolding dotted_text
text_first arcs h = at_drop_more dotted_text arcs 0 0 h

pub later_more : (arcs : List ℕ) (i : ℕ) → i < length arcs
    → later_arcs (drop i arcs) ≡ after_dot (get_or arcs i 0) ++ later_arcs (drop (i + 1) arcs)
later_more arcs i h = at_drop_more later_arcs arcs i 0 h

pub arc_fits : (n : ℕ) → is_arc n ≡ true → n < 2 ^ 64
arc_fits n h = omega (arith, limit_room, leb-true n arc_limit h)

-- where no arc has more than so many digits
module _ (most : ℕ) (bounded : (arc : ℕ) → is_arc arc ≡ true → length (decimal arc) ≤ most) where
  later_within : (arcs : List ℕ) → all_arcs arcs ≡ true → length (later_arcs arcs) ≤ length arcs * (1 + most)
  unfolding all_arcs
  later_within [] h = omega arith
  later_within (arc ∷ arcs) h =
      let parts = and_parts (is_arc arc) (all_arcs arcs) h in
      omega (arith, length-append (after_dot arc) (later_arcs arcs), bounded arc parts.0, later_within arcs parts.1)

  -- the text has them, and a dot with each but one
  pub text_within : (arcs : List ℕ) → is_identifier arcs ≡ true → length (dotted_text arcs) + 1 ≤ length arcs * (1 + most)
  unfolding dotted_text
  text_within arcs h = go arcs (keeps arcs h)
    where
      go : (list : List ℕ) → Keeps list → length (dotted_text list) + 1 ≤ length list * (1 + most)
      go [] k = absurd (omega (arith, k.long))
      go (arc ∷ list) k =
          omega (arith, length-append (decimal arc) (later_arcs list), length-append (after_dot arc) (later_arcs list), later_within (arc ∷ list) k.each)

-- a dot with each arc is one more than the text has
pub length_with_dots : (arcs : List ℕ) → is_identifier arcs ≡ true
    → sum_by (λ arc. 1 + length (decimal arc)) arcs ≡ 1 + length (dotted_text arcs)
unfolding dotted_text
length_with_dots arcs h = go arcs (keeps arcs h).long
  where
    one : (n : ℕ) → suc n ≡ 1 + n
    one n = omega arith

    go : (list : List ℕ) → 2 ≤ length list → sum_by (λ arc. 1 + length (decimal arc)) list ≡ 1 + length (dotted_text list)
    go [] long = absurd (omega arith)
    go (arc ∷ list) long =
        (λ k. sum_by (λ number. sym (one (length (decimal number))) k) (arc ∷ list))
        ∙ sym (length-flat_map after_dot (arc ∷ list)) ∙ one (length (decimal arc ++ later_arcs list))

pub text_most : (arcs : List ℕ) → is_identifier arcs ≡ true → length (dotted_text arcs) ≤ text_limit
text_most arcs h =
    let short = (keeps arcs h).short in
    omega (arith, short, text_within 20 (λ arc e. length_most arc (arc_fits arc e)) arcs h)
