-- The encoding of an identifier, whatever follows it, is read as that identifier.
use Rattle.std.proofs.Common.{◌≡◌, ℕ, ◌+◌, ◌-◌, ◌<◌, ◌≤◌, true, eqb, List, [], ◌∷◌, ◌++◌, length, get_or, take, drop, None, Ok, sym, refl, ap, ◌∙◌, arith}
use Rattle.std.proofs.lemmas.List.{length-map, length-append, append-nil, drop_at, take_at}
use Rattle.std.proofs.lemmas.Bool.{cond-false}
use Rattle.std.proofs.lemmas.Bool.Decides.{nat_tests}
use Rattle.std.proofs.lemmas.Grind.{common_steps}
use Rattle.oid.specs.Numbers.{Number, values, first_at}
use Rattle.oid.specs.Tree.{all_arcs, starts_well, is_identifier}
use Rattle.oid.proofs.Numbers.{counted, read_all, none_too_large}
use Rattle.oid.proofs.Tree.{Keeps, keeps}
use Rattle.der.specs.Base128.{more, is_last, base128}
use Rattle.der.specs.Header.{header_length, taken_in, contents_in, bad_header}
use Rattle.der.specs.Reading.{read_subidentifiers, read_der}
use Rattle.der.specs.Subidentifiers.{number_in, subidentifiers_from, series_from, arcs_in, arc_numbers}
use Rattle.der.specs.Writing.{subidentifiers_of, contents_of, der_bytes}
use Rattle.der.proofs.Contents.{written, contents_written, contents_most, bytes_are, length_bytes, length_subs}
use Rattle.der.proofs.Digits.{some_bytes, value_base128, base128_unpadded}
use Rattle.der.proofs.Joining.{root_joined, second_joined}
use Rattle.der.proofs.Reading.{arcs_plain, values_arcs, read_arcs, read_finished}
use Rattle.der.proofs.Series.{series, first_base128, subs_next}

-- the last byte of a list can be the last of a subidentifier
abbrev pub Ends : List ℕ → Type 0
Ends bytes = is_last (get_or bytes (length bytes - 1) 0) ≡ true

ends_base128 : (n : ℕ) → Ends (base128 n)
unfolding base128
ends_base128 n = grind (arith, nat_tests, common_steps)

ends_append : (front back : List ℕ) → 0 < length back → Ends back → Ends (front ++ back)
ends_append front back some h = grind (arith, nat_tests, common_steps)

some_written : (n : ℕ) (others : List ℕ) → 0 < length (written (n ∷ others))
some_written n others = omega (arith, length-append (base128 n) (written others), some_bytes n)

pub ends_written : (n : ℕ) (others : List ℕ) → Ends (written (n ∷ others))
ends_written n [] = ap (λ l. is_last (get_or l (length l - 1) 0)) (append-nil (base128 n)) ∙ ends_base128 n
ends_written n (next ∷ others) =
    ends_append (base128 n) (written (next ∷ others)) (some_written next others) (ends_written next others)

-- the subidentifiers that are read from written ones: none begins with 80, and their values are those written
record ReadBack (numbers : List Number) (subs : List ℕ) : Type 0 where
  fresh : first_at (λ number. number.padded) numbers ≡ None
  read : values numbers ≡ subs

read_back : (subs : List ℕ) (offset : ℕ) → ReadBack (subidentifiers_from offset (written subs)) subs
unfolding series_from first_at
read_back [] offset = record { fresh = refl; read = refl }
read_back (n ∷ subs) offset =
    let bytes = base128 n ++ written subs in
    let first = first_base128 n (written subs) in
    let others = subidentifiers_from (offset + length (base128 n)) (written subs) in
    let left : drop (length (base128 n)) bytes ≡ written subs = drop_at (base128 n) (written subs) _ refl in
    let next : subidentifiers_from offset bytes ≡ number_in (series offset (base128 n)) ∷ others =
    subs_next offset bytes (some_written n subs)
    ∙ (λ k. number_in (series offset (first k)) ∷ subidentifiers_from (offset + length (first k)) (drop (length (first k)) bytes))
    ∙ ap (λ l. number_in (series offset (base128 n)) ∷ subidentifiers_from (offset + length (base128 n)) l) left in
    let rest = read_back subs (offset + length (base128 n)) in
    record {
      fresh =
          ap (first_at (λ number. number.padded)) next
          ∙ cond-false (eqb (get_or (base128 n) 0 0) more) _ _ (base128_unpadded n) ∙ rest.fresh;
      read = ap values next ∙ (λ k. value_base128 n k ∷ rest.read k);
    }

-- the subidentifiers of an identifier stand for its arcs
arcs_again : (arcs : List ℕ) → Keeps arcs → arcs_in (subidentifiers_of arcs) ≡ arcs
arcs_again [] k = absurd (omega (arith, k.long))
arcs_again (first ∷ []) k = absurd (omega (arith, k.long))
arcs_again (first ∷ (second ∷ others)) k =
    λ i. root_joined first second k.start i ∷ (second_joined first second k.start i ∷ others)

read_numbers_lem : (numbers : List Number) (arcs : List ℕ) → is_identifier arcs ≡ true → ReadBack numbers (subidentifiers_of arcs)
    → read_subidentifiers numbers ≡ Ok arcs
read_numbers_lem numbers arcs h back =
    let k = keeps arcs h in
    let same : values (arc_numbers numbers) ≡ arcs = values_arcs numbers ∙ ap arcs_in back.read ∙ arcs_again arcs k in
    let long : length (arc_numbers numbers) ≡ length arcs = sym (length-map (arc_numbers numbers) (λ n. n.value)) ∙ ap length same in
    let small = none_too_large (arc_numbers numbers) (ap all_arcs same ∙ k.each) in
    let starts = ap (λ l. starts_well (get_or l 0 0) (get_or l 1 0)) same ∙ k.start in
    read_arcs numbers back.fresh
    ∙ read_all (arc_numbers numbers) (arcs_plain numbers) small (counted (length (arc_numbers numbers)) (omega (arith, k.long)) (omega (arith, k.short))) starts
    ∙ ap Ok same

module _ (arcs : List ℕ) (rule : is_identifier arcs ≡ true) (rest : List ℕ) where
  abbrev bytes : List ℕ
  bytes = der_bytes arcs ++ rest

  -- the parts of the encoding, where it stands before the rest
  split_up : bytes ≡ 6 ∷ (length (contents_of arcs) ∷ (contents_of arcs ++ rest))
  split_up = ap (λ l. l ++ rest) (bytes_are arcs)

  told : get_or bytes 1 0 ≡ length (contents_of arcs)
  told = ap (λ l. get_or l 1 0) split_up

  pub taken_is : taken_in bytes ≡ length (der_bytes arcs)
  taken_is = omega (arith, told, length_bytes arcs)

  contents_is : contents_in bytes ≡ contents_of arcs
  contents_is =
      (λ k. take (told k) (drop header_length (split_up k))) ∙ take_at (contents_of arcs) rest _ refl

  -- there are some subidentifiers, so there are some contents
  record SomeContents : Type 0 where
    some : 1 ≤ length (contents_of arcs)
    ended : Ends (contents_of arcs)

  some_contents : SomeContents
  some_contents = go (subidentifiers_of arcs) refl
    where
      go : (subs : List ℕ) → subidentifiers_of arcs ≡ subs → SomeContents
      go [] e = absurd (omega (arith, length_subs arcs (keeps arcs rule).long, (keeps arcs rule).long, ap length e))
      go (n ∷ others) e =
          let is = contents_written arcs ∙ ap written e in
          record { some = omega (arith, ap length is, some_written n others); ended = ap (λ l. is_last (get_or l (length l - 1) 0)) is ∙ ends_written n others }

  header_good : bad_header bytes ≡ None
  unfolding bad_header
  header_good =
      let tagged = ap (λ l. get_or l 0 0) split_up in
      let long = ap length split_up in
      let both = length-append (contents_of arcs) rest in
      let some = some_contents.some in
      let few = contents_most arcs rule in
      let count = told in
      grind (arith, nat_tests)

  pub read_bytes : read_der bytes ≡ Ok arcs
  read_bytes =
      read_finished bytes (contents_of arcs) (sym header_good) (sym contents_is) some_contents.ended
      ∙ ap (λ l. read_subidentifiers (subidentifiers_from header_length l)) (contents_written arcs)
      ∙ read_numbers_lem _ arcs rule (read_back (subidentifiers_of arcs) header_length)
