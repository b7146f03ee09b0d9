-- A reading that begins further on finds the same, further on.
use Rattle.std.proofs.Common.{◌≡◌, ℕ, ◌+◌, ◌≤◌, Bool, true, false, cond, ltb, leb, List, [], ◌∷◌, map, length, get_or, Some, None, Ok, Option, Result, sym, refl, ap, ◌∙◌, arith}
use Rattle.std.specs.Option as options
use Rattle.std.proofs.lemmas.List.{length-map, get_or-map}
use Rattle.std.proofs.lemmas.Simd.{map-map}
use Rattle.std.proofs.lemmas.Bool.{and_parts, leb-true, cond_both}
use Rattle.oid.specs.Numbers.{Number, values, offsets, too_large, first_at, leading_zeros, large_numbers, wrong_count, wrong_start, read_numbers}
use Rattle.oid.specs.Refusals.{ask, fault_at}
use Rattle.oid.specs.Tree.{fewest_arcs, most_arcs, last_root, starts_well}
use Rattle.oid.specs.declared.refusal.Fault.{Fault}
use Rattle.oid.specs.declared.refusal.Refusal.{Refusal}
use Rattle.oid.specs.declared.refusal.Refusal.TheVariants.{NotDotted, LeadingZero, ArcTooLarge, ArcCount, FirstArcs}
use Rattle.oid.proofs.Numbers.{right_count, yes_cond}
use Rattle.dotted.specs.Form.{is_dot, is_digit, may_stand, faulty_from, faulty}
use Rattle.dotted.specs.Laws.{further, read_further}
use Rattle.dotted.specs.Pieces.{Piece, longer, pieces_from, number_in, numbers_from}
use Rattle.dotted.specs.Reading.{bad_form, read_from}
use Rattle.dotted.proofs.Reading.{questions}

module _ (bytes : ℕ) where
  abbrev later : ℕ → ℕ
  later offset = offset + bytes

  abbrev moved_piece : Piece → Piece
  moved_piece piece = record { offset = later piece.offset; digits = piece.digits }

  abbrev moved_number : Number → Number
  moved_number number = record { offset = later number.offset; value = number.value; padded = number.padded }

  -- the form
  form_moved : (text : List ℕ) (offset : ℕ) (after_digit : Bool)
      → faulty_from (later offset) after_digit text ≡ options.option_map later (faulty_from offset after_digit text)
  unfolding faulty_from
  form_moved [] offset after_digit = refl
  form_moved (byte ∷ rest) offset after_digit = go (may_stand after_digit byte rest) (form_moved rest (offset + 1) (is_digit byte))
    where
      next : offset + bytes + 1 ≡ offset + 1 + bytes
      next = omega arith

      go : (v : Bool)
          → faulty_from (later (offset + 1)) (is_digit byte) rest ≡ options.option_map later (faulty_from (offset + 1) (is_digit byte) rest)
          → cond v (faulty_from (later offset + 1) (is_digit byte) rest) (Some (later offset)) ≡ options.option_map later (cond v (faulty_from (offset + 1) (is_digit byte) rest) (Some offset))
      go true e = ap (λ n. faulty_from n (is_digit byte) rest) next ∙ e
      go false e = refl

  faulty_moved : (text : List ℕ) (offset : ℕ) → faulty (later offset) text ≡ options.option_map later (faulty offset text)
  faulty_moved [] offset = refl
  faulty_moved (byte ∷ rest) offset = form_moved (byte ∷ rest) offset false

  -- the pieces, and the numbers in them
  longer_moved : (offset byte : ℕ) (pieces : List Piece)
      → longer (later offset) byte (map moved_piece pieces) ≡ map moved_piece (longer offset byte pieces)
  longer_moved offset byte [] = refl
  longer_moved offset byte (piece ∷ pieces) = refl

  pieces_moved : (text : List ℕ) (offset : ℕ) → pieces_from (later offset) text ≡ map moved_piece (pieces_from offset text)
  unfolding pieces_from
  pieces_moved [] offset = refl
  pieces_moved (byte ∷ rest) offset = go (is_dot byte) (pieces_moved rest (offset + 1))
    where
      next : offset + bytes + 1 ≡ offset + 1 + bytes
      next = omega arith

      go : (v : Bool) → pieces_from (later (offset + 1)) rest ≡ map moved_piece (pieces_from (offset + 1) rest)
          → cond v (record { offset = later offset; digits = [] } ∷ pieces_from (later offset + 1) rest) (longer (later offset) byte (pieces_from (later offset + 1) rest)) ≡ map moved_piece (cond v (record { offset = offset; digits = [] } ∷ pieces_from (offset + 1) rest) (longer offset byte (pieces_from (offset + 1) rest)))
      go true e = ap (λ l. record { offset = later offset; digits = [] } ∷ l) (ap (λ n. pieces_from n rest) next ∙ e)
      go false e = ap (longer (later offset) byte) (ap (λ n. pieces_from n rest) next ∙ e)
          ∙ longer_moved offset byte (pieces_from (offset + 1) rest)

  numbered : (pieces : List Piece) → map number_in (map moved_piece pieces) ≡ map moved_number (map number_in pieces)
  numbered pieces = map-map number_in moved_piece pieces ∙ sym (map-map moved_number number_in pieces)

  -- the questions about them
  values_moved : (numbers : List Number) → values (map moved_number numbers) ≡ values numbers
  values_moved numbers = map-map (λ number. number.value) moved_number numbers

  offsets_moved : (numbers : List Number) → offsets (map moved_number numbers) ≡ map later (offsets numbers)
  offsets_moved numbers =
      map-map (λ number. number.offset) moved_number numbers ∙ sym (map-map later (λ number. number.offset) numbers)

  picked_moved : (v : Bool) (offset : ℕ) (o p : Option ℕ) → o ≡ options.option_map later p
      → cond v (Some (later offset)) o ≡ options.option_map later (cond v (Some offset) p)
  picked_moved true offset o p e = refl
  picked_moved false offset o p e = e

  -- a test that does not look at the offset
  first_at_moved : (test : Number → Bool) → ((number : Number) → test (moved_number number) ≡ test number)
      → (numbers : List Number)
      → first_at test (map moved_number numbers) ≡ options.option_map later (first_at test numbers)
  unfolding first_at
  first_at_moved test same [] = refl
  first_at_moved test same (number ∷ numbers) =
      ap (λ v. cond v (Some (later number.offset)) (first_at test (map moved_number numbers))) (same number)
      ∙ picked_moved (test number) number.offset _ _ (first_at_moved test same numbers)

  ask_moved : (before after : Option Fault) (others others' : Result (List ℕ) Fault)
      → after ≡ options.option_map (further bytes) before → (before ≡ None → others' ≡ read_further bytes others)
      → ask after others' ≡ read_further bytes (ask before others)
  ask_moved None after others others' e h = ap (λ q. ask q others') e ∙ h refl
  ask_moved (Some fault) after others others' e h = ap (λ q. ask q others') e

  -- a fault at a byte
  at_byte : (refusal : Refusal)
      → ((offset : ℕ) → further bytes (fault_at refusal offset) ≡ fault_at refusal (later offset))
      → (o p : Option ℕ) → o ≡ options.option_map later p
      → options.option_map (fault_at refusal) o ≡ options.option_map (further bytes) (options.option_map (fault_at refusal) p)
  at_byte refusal moves o None e = ap (options.option_map (fault_at refusal)) e
  at_byte refusal moves o (Some n) e = ap (options.option_map (fault_at refusal)) e ∙ ap Some (sym (moves n))

  count_moved : (numbers : List Number)
      → wrong_count (length (map moved_number numbers)) ≡ options.option_map (further bytes) (wrong_count (length numbers))
  count_moved numbers = ap wrong_count (length-map numbers moved_number)
      ∙ go (right_count (length numbers))
    where
      go : (v : Bool)
          → cond v None (Some (fault_at ArcCount 0)) ≡ options.option_map (further bytes) (cond v None (Some (fault_at ArcCount 0)))
      go true = refl
      go false = refl

  start_moved : (numbers : List Number) → wrong_count (length numbers) ≡ None
      → wrong_start (map moved_number numbers) ≡ options.option_map (further bytes) (wrong_start numbers)
  start_moved numbers enough =
      let counts =
      and_parts (leb fewest_arcs (length numbers)) (leb (length numbers) most_arcs) (yes_cond (right_count (length numbers)) _ enough) in
      let two = leb-true fewest_arcs (length numbers) counts.0 in
      let place : ℕ = cond (ltb last_root (get_or (values numbers) 0 0)) 0 1 in
      let small : place ≤ 1 =
      cond_both (ltb last_root (get_or (values numbers) 0 0)) 0 1 (λ n. n ≤ 1) (λ _. omega arith) (λ _. omega arith) in
      let there : get_or (map later (offsets numbers)) place 0 ≡ later (get_or (offsets numbers) place 0) =
      get_or-map later (offsets numbers) place 0 0 (omega (arith, length-map numbers (λ number. number.offset))) in
      (λ k. asks (values_moved numbers k) (offsets_moved numbers k))
      ∙ go (starts_well (get_or (values numbers) 0 0) (get_or (values numbers) 1 0)) place there
    where
      asks : List ℕ → List ℕ → Option Fault
      asks arcs places = cond (starts_well (get_or arcs 0 0) (get_or arcs 1 0)) None (Some (fault_at FirstArcs (get_or places (cond (ltb last_root (get_or arcs 0 0)) 0 1) 0)))

      go : (v : Bool) (place : ℕ)
          → get_or (map later (offsets numbers)) place 0 ≡ later (get_or (offsets numbers) place 0)
          → cond v None (Some (fault_at FirstArcs (get_or (map later (offsets numbers)) place 0))) ≡ options.option_map (further bytes) (cond v None (Some (fault_at FirstArcs (get_or (offsets numbers) place 0))))
      go true place e = refl
      go false place e = ap (λ n. Some (fault_at FirstArcs n)) e

  numbers_moved : (numbers : List Number) → read_numbers (map moved_number numbers) ≡ read_further bytes (read_numbers numbers)
  unfolding read_numbers
  numbers_moved numbers =
      ask_moved (leading_zeros numbers) _ _ _ (at_byte LeadingZero (λ _. refl) _ _ (first_at_moved (λ number. number.padded) (λ _. refl) numbers)) (λ _.
      ask_moved (large_numbers numbers) _ _ _ (at_byte ArcTooLarge (λ _. refl) _ _ (first_at_moved too_large (λ _. refl) numbers)) (λ _.
      ask_moved (wrong_count (length numbers)) _ _ _ (count_moved numbers) (λ enough.
      ask_moved (wrong_start numbers) _ _ _ (start_moved numbers enough) (λ _. ap Ok (values_moved numbers)))))

  pub read_moved : (text : List ℕ) (offset : ℕ) → read_from (later offset) text ≡ read_further bytes (read_from offset text)
  read_moved text offset =
      let numbers = ap (map number_in) (pieces_moved text offset) ∙ numbered (pieces_from offset text) in
      questions (later offset) text
      ∙ ask_moved (bad_form offset text) _ _ _ (at_byte NotDotted (λ _. refl) _ _ (faulty_moved text offset)) (λ _. ap read_numbers numbers ∙ numbers_moved (numbers_from offset text))
      ∙ ap (read_further bytes) (sym (questions offset text))
