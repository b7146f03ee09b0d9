-- Arguments taken from the front, an option and its value at a time.
use Rattle.std.proofs.Common.{◌≡◌, ℕ, ◌+◌, ◌-◌, ◌<◌, ◌≤◌, cond, eqb, List, [], ◌∷◌, get_or, map, length, take, drop, Some, None, Option, option_map, is_some, refl, sym, ap, ◌∙◌, arith}
use Rattle.std.specs.Cmp.Lexicographic.{pointwise}
use Rattle.std.proofs.lemmas.List.{take_all}
use Rattle.options.specs.Names.{name_of, name_text}
use Rattle.options.specs.Options.{value_of, named, fault_from}
use Rattle.options.specs.declared.bad_option.BadOption.TheVariants.{Unknown, NoValue, Twice}
use Rattle.options.specs.declared.name.Name.{Name}

module _ {X : Type 0} (text : X → List ℕ) where
  -- what stands behind the first so many
  abbrev pub behind : ℕ → List X → List X
  behind n list = take (length list - n) (drop n list)

  pub value_next : (option : Name) (left : List X) (word value : X) → 2 ≤ length left → word ≡ get_or left 0 word → value ≡ get_or left 1 value
      → value_of option (map text left) ≡ cond (pointwise eqb (name_text option) (text word)) (Some (text value)) (value_of option (map text (behind 2 left)))
  unfolding value_of
  value_next option [] word value h w v = absurd (omega arith)
  value_next option (a ∷ []) word value h w v = absurd (omega arith)
  value_next option (a ∷ b ∷ rest) word value h w v =
      let whole : behind 2 (a ∷ b ∷ rest) ≡ rest = take_all _ rest (omega arith) in
      λ k. cond (pointwise eqb (name_text option) (text (sym w k))) (Some (text (sym v k))) (value_of option (map text (sym whole k)))

  pub value_done : (option : Name) (left : List X) → length left < 2 → value_of option (map text left) ≡ None
  unfolding value_of
  value_done option [] h = refl
  value_done option (a ∷ []) h = refl
  value_done option (a ∷ b ∷ rest) h = absurd (omega arith)

  pub fault_unknown : (index : ℕ) (left : List X) (word : X) → 1 ≤ length left → word ≡ get_or left 0 word → name_of (text word) ≡ None
      → fault_from index (map text left) ≡ Some (Unknown index)
  unfolding fault_from
  fault_unknown index [] word h w e = absurd (omega arith)
  fault_unknown index (a ∷ []) word h w e = ap (λ found. named index found (λ name. Some (NoValue name))) (ap (λ x. name_of (text x)) (sym w) ∙ e)
  fault_unknown index (a ∷ b ∷ rest) word h w e =
      ap (λ found. named index found (λ name. cond (is_some (value_of name (map text rest))) (Some (Twice name)) (fault_from (index + 2) (map text rest)))) (ap (λ x. name_of (text x)) (sym w) ∙ e)

  pub fault_no_value : (index : ℕ) (left : List X) (word : X) (option : Name) → 1 ≤ length left → length (behind 1 left) < 1 → word ≡ get_or left 0 word
      → name_of (text word) ≡ Some option → fault_from index (map text left) ≡ Some (NoValue option)
  unfolding fault_from
  fault_no_value index [] word option h few w e = absurd (omega arith)
  fault_no_value index (a ∷ []) word option h few w e = ap (λ found. named index found (λ name. Some (NoValue name))) (ap (λ x. name_of (text x)) (sym w) ∙ e)
  fault_no_value index (a ∷ b ∷ rest) word option h few w e =
      absurd (omega (arith, few, ap length (take_all (length (a ∷ b ∷ rest) - 1) (b ∷ rest) (omega arith))))

  pub fault_next : (index : ℕ) (left : List X) (word : X) (option : Name) → 1 ≤ length left → 1 ≤ length (behind 1 left) → word ≡ get_or left 0 word
      → name_of (text word) ≡ Some option
      → fault_from index (map text left)
      ≡ cond (is_some (value_of option (map text (behind 1 (behind 1 left))))) (Some (Twice option)) (fault_from (index + 2) (map text (behind 1 (behind 1 left))))
  unfolding fault_from
  fault_next index [] word option h more w e = absurd (omega arith)
  fault_next index (a ∷ []) word option h more w e = absurd (omega arith)
  fault_next index (a ∷ b ∷ rest) word option h more w e =
      let first : behind 1 (a ∷ b ∷ rest) ≡ b ∷ rest = take_all _ (b ∷ rest) (omega arith) in
      let whole : behind 1 (behind 1 (a ∷ b ∷ rest)) ≡ rest = ap (behind 1) first ∙ take_all _ rest (omega arith) in
      ap (λ found. named index found (λ name. cond (is_some (value_of name (map text rest))) (Some (Twice name)) (fault_from (index + 2) (map text rest)))) (ap (λ x. name_of (text x)) (sym w) ∙ e)
      ∙ ap (λ l. cond (is_some (value_of option (map text l))) (Some (Twice option)) (fault_from (index + 2) (map text l))) (sym whole)

  pub fault_done : (index : ℕ) (left : List X) → length left < 1 → fault_from index (map text left) ≡ None
  unfolding fault_from
  fault_done index [] h = refl
  fault_done index (a ∷ rest) h = absurd (omega arith)

  pub fewer_by_two : (left : List X) → 1 ≤ length left → 1 ≤ length (behind 1 left) → length (behind 1 (behind 1 left)) + 2 ≡ length left
  fewer_by_two [] h more = absurd (omega arith)
  fewer_by_two (a ∷ []) h more = absurd (omega arith)
  fewer_by_two (a ∷ b ∷ rest) h more =
      let first : behind 1 (a ∷ b ∷ rest) ≡ b ∷ rest = take_all _ (b ∷ rest) (omega arith) in
      let whole : behind 1 (behind 1 (a ∷ b ∷ rest)) ≡ rest = ap (behind 1) first ∙ take_all _ rest (omega arith) in
      omega (arith, ap length whole)

  start : (words : List X) → fault_from (length words - length (drop 1 words)) (map text (drop 1 words)) ≡ fault_from 1 (drop 1 (map text words))
  unfolding fault_from
  start [] = refl
  start (a ∷ rest) = ap (λ index. fault_from index (map text rest)) (omega arith)

  -- the first of the arguments is the word with the index 1
  pub fault_start : (words left : List X) → left ≡ drop 1 words → fault_from (length words - length left) (map text left) ≡ fault_from 1 (drop 1 (map text words))
  fault_start words left e = ap (λ l. fault_from (length words - length l) (map text l)) e ∙ start words

pub some_mapped : {A B : Type 0} (f : A → B) (found : Option A) → is_some (option_map f found) ≡ is_some found
some_mapped f None = refl
some_mapped f (Some x) = refl
