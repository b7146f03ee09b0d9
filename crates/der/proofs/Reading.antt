-- What each outcome of the questions makes of the reading.
use Rattle.std.proofs.Common.{◌≡◌, ℕ, ◌+◌, ◌-◌, true, false, cond, ltb, List, [], ◌∷◌, map, length, get_or, Some, None, Ok, Err, sym, refl, ap, ◌∙◌, arith}
use Rattle.std.specs.Option.{option_map}
use Rattle.std.proofs.lemmas.List.{length-map}
use Rattle.std.proofs.lemmas.Bool.Decides.{nat_tests}
use Rattle.oid.specs.Numbers.{Number, values, offsets, too_large, first_at, wrong_count, read_numbers}
use Rattle.oid.specs.Refusals.{fault_at, ask}
use Rattle.oid.specs.Tree.{last_root}
use Rattle.oid.specs.declared.refusal.Fault.{Fault}
use Rattle.oid.specs.declared.refusal.Refusal.TheVariants.{LeadingZero, ArcTooLarge, FirstArcs, Unfinished, Padded}
use Rattle.der.specs.Base128.{is_last}
use Rattle.der.specs.Header.{header_length, contents_in, bad_header}
use Rattle.der.specs.Reading.{first_large, read_subidentifiers, read_der}
use Rattle.der.specs.Subidentifiers.{subidentifiers_from, root_in, second_in, arcs_in, later_arc, arc_numbers}
use Rattle.der.proofs.Joining.{root_arc, second_large, starts_apart}

-- arcs as numbers: none has a leading zero
later_plain : (numbers : List Number) → first_at (λ number. number.padded) (map later_arc numbers) ≡ None
unfolding first_at
later_plain [] = refl
later_plain (number ∷ numbers) = later_plain numbers

pub arcs_plain : (numbers : List Number) → first_at (λ number. number.padded) (arc_numbers numbers) ≡ None
unfolding first_at
arcs_plain [] = refl
arcs_plain (number ∷ numbers) = later_plain numbers

later_large : (numbers : List Number) → first_at too_large (map later_arc numbers) ≡ first_at too_large numbers
unfolding first_at
later_large [] = refl
later_large (number ∷ numbers) = let others = later_large numbers in grind (arith, nat_tests)

-- an arc is too large exactly where question 3 finds its subidentifier too large
arcs_large : (numbers : List Number) → first_at too_large (arc_numbers numbers) ≡ first_large numbers
unfolding first_at
arcs_large [] = refl
arcs_large (first ∷ others) =
    let root = root_arc first.value in
    let second = second_large first.value in
    let later = later_large others in
    grind (arith, nat_tests)

-- there is one arc more than there are subidentifiers, where there are any
pub length_arcs : (first : Number) (others : List Number) → length (arc_numbers (first ∷ others)) ≡ 1 + length (first ∷ others)
length_arcs first others = omega (arith, length-map others later_arc)

later_values : (numbers : List Number) → values (map later_arc numbers) ≡ values numbers
later_values [] = refl
later_values (number ∷ numbers) = ap (λ l. number.value ∷ l) (later_values numbers)

pub values_arcs : (numbers : List Number) → values (arc_numbers numbers) ≡ arcs_in (values numbers)
values_arcs [] = refl
values_arcs (first ∷ others) = ap (λ l. root_in first.value ∷ (second_in first.value ∷ l)) (later_values others)

-- subidentifiers of which none begins with 80 are read as their arcs are
pub read_arcs : (numbers : List Number) → first_at (λ number. number.padded) numbers ≡ None
    → read_subidentifiers numbers ≡ read_numbers (arc_numbers numbers)
unfolding read_subidentifiers read_numbers first_at
read_arcs [] h = refl
read_arcs (first ∷ others) h =
    let numbers = arc_numbers (first ∷ others) in
    let fault = fault_at FirstArcs (get_or (offsets numbers) (cond (ltb last_root (root_in first.value)) 0 1) 0) in
    (λ k. ask (option_map (fault_at Padded) (h k)) (ask (option_map (fault_at ArcTooLarge) (first_large (first ∷ others))) (ask (wrong_count (1 + length (first ∷ others))) (Ok (arcs_in (values (first ∷ others)))))))
    ∙ sym (λ k. ask (option_map (fault_at LeadingZero) (arcs_plain (first ∷ others) k)) (ask (option_map (fault_at ArcTooLarge) (arcs_large (first ∷ others) k)) (ask (wrong_count (length_arcs first others k)) (ask (cond (starts_apart first.value k) None (Some fault)) (Ok (values_arcs (first ∷ others) k))))))

pub read_header : (bytes : List ℕ) (fault : Fault) → Some fault ≡ bad_header bytes → read_der bytes ≡ Err fault
unfolding read_der
read_header bytes fault e = rw (sym e) refl

-- the questions that are put to the contents
module _ (bytes contents : List ℕ) (good : None ≡ bad_header bytes) (is : contents ≡ contents_in bytes) where
  pub read_unfinished : is_last (get_or contents (length contents - 1) 0) ≡ false
      → read_der bytes ≡ Err (fault_at Unfinished (header_length + (length contents - 1)))
  unfolding read_der
  read_unfinished e = rw (sym good, sym is, e) refl

  module _ (ended : is_last (get_or contents (length contents - 1) 0) ≡ true) where
    abbrev numbers : List Number
    numbers = subidentifiers_from header_length contents

    pub read_finished : read_der bytes ≡ read_subidentifiers numbers
    unfolding read_der
    read_finished = rw (sym good, sym is, ended) refl

    pub read_padded : (at : ℕ) → Some at ≡ first_at (λ number. number.padded) numbers → read_der bytes ≡ Err (fault_at Padded at)
    unfolding read_subidentifiers
    read_padded at e = read_finished ∙ rw (sym e) refl

    pub read_last : None ≡ first_at (λ number. number.padded) numbers → read_der bytes ≡ read_numbers (arc_numbers numbers)
    read_last e = read_finished ∙ read_arcs numbers (sym e)
