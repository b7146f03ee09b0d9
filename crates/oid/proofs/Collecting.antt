-- What a collector knows after one number more, and what follows at the end.
use Rattle.std.proofs.Common.{◌≡◌, ℕ, ◌+◌, ◌-◌, ◌^◌, ◌<◌, ◌≤◌, min, Bool, true, false, cond, not, ltb, List, [], ◌∷◌, ◌++◌, map, length, get_or, take, set, is_some, Some, None, Ok, Err, Option, unwrap_or, sym, ap, ◌∙◌, ⊎_elim, arith}
use Rattle.std.specs.Bool.{then_some}
use Rattle.std.specs.Option.{option_map, option_or, ok_or}
use Rattle.std.specs.Result.{result_map_both}
use Rattle.std.proofs.lemmas.List.{length-map, length_push, map_push, set_past, take_all, take-append-le, take_more_set, get_or-take}
use Rattle.std.proofs.lemmas.Bool.{cases_lt, cond_both}
use Rattle.oid.specs.Collected.{Collected, numeral_of, stored_arc}
use Rattle.oid.specs.Meaning.{arcs_of}
use Rattle.oid.specs.Numbers.{Number, values, offsets, too_large, first_at, read_numbers}
use Rattle.oid.specs.Refusals.{fault_at}
use Rattle.oid.specs.Tree.{fewest_arcs, most_arcs, last_root, is_identifier, identified, starts_well}
use Rattle.oid.specs.declared.collector.Collector.{Collector}
use Rattle.oid.specs.declared.identifier.Identifier.{Identifier}
use Rattle.oid.specs.declared.numeral.Numeral.{Numeral}
use Rattle.oid.specs.declared.refusal.Fault.{Fault}
use Rattle.oid.specs.declared.refusal.Refusal.TheVariants.{FirstArcs}
use Rattle.oid.proofs.Arcs.{is_arc_is}
use Rattle.oid.proofs.Numbers.{first_at_push, none_large, right_count, counted, read_start, read_all}
use Rattle.oid.proofs.Tree.{identified_some, identified_none, identifier_starts}

-- the places hold the first ones of a list
abbrev Holds : ℕ → List ℕ → List ℕ → Type 0
Holds most places list = take (length list) places ≡ take most list

-- one more: in its place, or nowhere if no place is left
pub holds_more : (most : ℕ) (places list : List ℕ) (n x : ℕ) → n ≡ min (length list) (2 ^ 64 - 1) → most ≤ 2 ^ 64 - 1
    → length places ≡ most → Holds most places list → Holds most (set places n x) (list ++ x ∷ [])
holds_more most places list n x at few whole h = ⊎_elim inside past (cases_lt (length list) most)
  where
    long : length (list ++ x ∷ []) ≡ length list + 1
    long = length_push list x

    inside : length list < most → Holds most (set places n x) (list ++ x ∷ [])
    inside room =
        let here : n ≡ length list = omega arith in
        let all : take most list ≡ list = take_all most list (omega arith) in
        let every : take most (list ++ x ∷ []) ≡ list ++ x ∷ [] = take_all most (list ++ x ∷ []) (omega (arith, long)) in
        let more = take_more_set places (length list) x (omega arith) in
        cc long

    past : most ≤ length list → Holds most (set places n x) (list ++ x ∷ [])
    past full =
        let kept_as_is : set places n x ≡ places = set_past places n x (omega arith) in
        let now = take_all (length (list ++ x ∷ [])) places (omega (arith, long)) in
        let before = take_all (length list) places (omega arith) in
        let front = take-append-le most list (x ∷ []) full in
        cc

-- the same places of two lists whose fronts are equal
pub get_or_fronts : (xs ys : List ℕ) (n m k : ℕ) → take n xs ≡ take m ys → k < n → k < m → get_or xs k 0 ≡ get_or ys k 0
get_or_fronts xs ys n m k e low high = sym (get_or-take n xs k 0 low) ∙ ap (λ l. get_or l k 0) e ∙ get_or-take m ys k 0 high

-- the same of what is stored of each number
pub holds_mapped : (most : ℕ) (f : Number → ℕ) (places : List ℕ) (numbers : List Number) (n : ℕ) (number : Number)
    → n ≡ min (length numbers) (2 ^ 64 - 1) → most ≤ 2 ^ 64 - 1 → length places ≡ most
    → take (length numbers) places ≡ take most (map f numbers)
    → take (length (numbers ++ number ∷ [])) (set places n (f number)) ≡ take most (map f (numbers ++ number ∷ []))
holds_mapped most f places numbers n number at few whole h =
    let as_many = length-map numbers f in
    let held : Holds most places (map f numbers) = ap (λ k. take k places) as_many ∙ h in
    let more = holds_more most places (map f numbers) n (f number) (omega (arith, as_many)) few whole held in
    let pushed = map_push f numbers number in
    let many = length-map (numbers ++ number ∷ []) f in
    cc

-- what `is_none` told, the other way round
none_is : (none some : Bool) → some ≡ not none → none ≡ not some
none_is true some e = sym (ap not e)
none_is false some e = sym (ap not e)

-- a collector after one number more
pub collected_more : (before after : Collector) (numeral : Numeral) (none : Bool)
    → after.count ≡ min (before.count + 1) (2 ^ 64 - 1)
    → after.arcs ≡ set before.arcs before.count (unwrap_or numeral.arc 0)
    → after.starts ≡ set before.starts before.count numeral.offset
    → after.padded ≡ option_or before.padded (then_some numeral.padded numeral.offset)
    → is_some numeral.arc ≡ not none
    → after.large ≡ option_or before.large (then_some none numeral.offset)
    → (numbers : List Number) (number : Number) → numeral ≡ numeral_of number → Collected before numbers
    → Collected after (numbers ++ number ∷ [])
collected_more before after numeral none count arcs places padded some large numbers number seen known =
    let all = length (numbers ++ number ∷ []) in
    let is_large : none ≡ too_large number =
    none_is none (is_some numeral.arc) some
    ∙ ap not (ap (λ n. is_some n.arc) seen ∙ is_arc_is number.value) in
    record {
      count = count ∙ omega (arith, known.count, length_push numbers number);
      arcs =
          ap (take all) (arcs ∙ ap (λ n. set before.arcs before.count (unwrap_or n.arc 0)) seen)
          ∙ holds_mapped most_arcs stored_arc before.arcs numbers before.count number known.count (omega arith) before.arc_places known.arcs;
      starts =
          ap (take all) (places ∙ ap (λ n. set before.starts before.count n.offset) seen)
          ∙ holds_mapped fewest_arcs (λ n. n.offset) before.starts numbers before.count number known.count (omega arith) before.start_places known.starts;
      padded =
          padded ∙ (λ i. option_or (known.padded i) (then_some (seen i).padded (seen i).offset))
          ∙ sym (first_at_push (λ n. n.padded) numbers number);
      large =
          large ∙ (λ i. option_or (known.large i) (then_some (is_large i) (seen i).offset))
          ∙ sym (first_at_push too_large numbers number);
    }

-- at the end, where no number has a leading zero or is too large, and there are 2 to 16
module _ (collector : Collector) (numbers : List Number) (known : Collected collector numbers) (no_zero : collector.padded ≡ None) (no_large : collector.large ≡ None) (low : fewest_arcs ≤ collector.count) (high : collector.count ≤ most_arcs) where
  count_is : collector.count ≡ length numbers
  count_is = omega (arith, known.count)

  large_none : first_at too_large numbers ≡ None
  large_none = sym known.large ∙ no_large

  zero_none : first_at (λ n. n.padded) numbers ≡ None
  zero_none = sym known.padded ∙ no_zero

  enough : right_count (length numbers) ≡ true
  enough = counted (length numbers) (omega (arith, count_is)) (omega (arith, count_is))

  arcs_are : take collector.count collector.arcs ≡ values numbers
  arcs_are =
      let stored = (none_large numbers large_none).0 in
      let all = take_all most_arcs (map stored_arc numbers) (omega (arith, length-map numbers stored_arc, count_is)) in
      ap (λ n. take n collector.arcs) count_is ∙ known.arcs ∙ all ∙ stored

  starts : is_identifier (values numbers) ≡ starts_well (get_or (values numbers) 0 0) (get_or (values numbers) 1 0)
  starts =
      let long = length-map numbers (λ n. n.value) in
      identifier_starts (values numbers) (omega (arith, long, count_is)) (omega (arith, long, count_is)) (none_large numbers large_none).1

  finish_some : (arcs : List ℕ) → Some arcs ≡ identified (take collector.count collector.arcs)
      → Ok arcs ≡ read_numbers numbers
  finish_some arcs e =
      let found = identified_some _ arcs e in
      let well = sym starts ∙ sym (ap is_identifier arcs_are) ∙ found.0 in
      ap Ok (found.1 ∙ arcs_are) ∙ sym (read_all numbers zero_none large_none enough well)

  finish_none : (offset : ℕ) → None ≡ identified (take collector.count collector.arcs)
      → offset ≡ get_or collector.starts (cond (ltb last_root (get_or collector.arcs 0 0)) 0 1) 0
      → Err (fault_at FirstArcs offset) ≡ read_numbers numbers
  finish_none offset e at =
      let ill = sym starts ∙ sym (ap is_identifier arcs_are) ∙ identified_none _ e in
      let first : get_or collector.arcs 0 0 ≡ get_or (values numbers) 0 0 =
      sym (get_or-take collector.count collector.arcs 0 0 (omega arith))
      ∙ ap (λ l. get_or l 0 0) arcs_are in
      let place : ℕ = cond (ltb last_root (get_or (values numbers) 0 0)) 0 1 in
      let small : place ≤ 1 =
      cond_both (ltb last_root (get_or (values numbers) 0 0)) 0 1 (λ n. n ≤ 1) (λ _. omega arith) (λ _. omega arith) in
      let there : get_or collector.starts place 0 ≡ get_or (offsets numbers) place 0 =
      get_or_fronts collector.starts (offsets numbers) (length numbers) fewest_arcs place known.starts (omega (arith, count_is)) (omega arith) in
      ap (λ n. Err (fault_at FirstArcs n)) (at ∙ ap (λ n. get_or collector.starts (cond (ltb 2 n) 0 1) 0) first ∙ there)
      ∙ sym (read_start numbers zero_none large_none enough ill)

  -- what is answered with an identifier made of the arcs, or of none
  pub finished : (found : Option Identifier) (fault : Fault) (offset : ℕ)
      → option_map arcs_of found ≡ identified (take collector.count collector.arcs)
      → fault ≡ fault_at FirstArcs offset
      → offset ≡ get_or collector.starts (cond (ltb last_root (get_or collector.arcs 0 0)) 0 1) 0
      → result_map_both arcs_of (λ other. other) (ok_or found fault) ≡ read_numbers numbers
  finished (Some identifier) fault offset made told at = finish_some (arcs_of identifier) made
  finished None fault offset made told at = ap Err told ∙ finish_none offset made at
