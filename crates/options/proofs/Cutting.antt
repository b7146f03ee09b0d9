-- A text cut at its first separator.
use Rattle.std.proofs.Common.{◌≡◌, ℕ, ◌+◌, ◌<◌, ◌≤◌, Bool, true, not, List, [], ◌∷◌, length, drop, Some, None, Option, Bor, is_some, refl, ap, sym, ◌∙◌, arith}
use Rattle.std.specs.List.{slice_split, before_first, after_first, position_or_len}
use Rattle.std.specs.Option.{option_map_or}
use Rattle.std.specs.Slice.{IsGetRangeResult}
use Rattle.std.proofs.lemmas.List.{take_all}
use Rattle.std.proofs.lemmas.List.Folds.{length-prefix_len}
use Rattle.std.proofs.lemmas.List.Splits.{slice_split_first, slice_split_none, length-slice_split}
use Rattle.std.proofs.lemmas.List.Sums.{prefix_len-le-length, fails_before_first}
use Rattle.std.proofs.lemmas.Slice.{between_to_end}
use Rattle.options.specs.Values.{two_arcs}

-- the parts of what stands behind a separator, if anything does
abbrev pub parts_behind : (ℕ → Bool) → Option (Bor (List ℕ)) → List (List ℕ)
parts_behind test behind = option_map_or (λ rest. slice_split test rest.now) behind []

-- the parts of a text are what stands before its first separator, and the parts of what stands behind that
pub cut_parts : (test : ℕ → Bool) (text front : List ℕ) (behind : Option (Bor (List ℕ))) → front ≡ before_first test text
    → IsGetRangeResult text (length front + 1) (length text) behind → slice_split test text ≡ front ∷ parts_behind test behind
cut_parts test text front behind is got = go behind got
  where
    n : ℕ
    n = position_or_len test text

    within : n ≤ length text
    within = prefix_len-le-length (λ byte. not (test byte)) text

    long : length front ≡ n
    long = ap length is ∙ length-prefix_len (λ byte. not (test byte)) text

    go : (behind : Option (Bor (List ℕ))) → IsGetRangeResult text (length front + 1) (length text) behind → slice_split test text ≡ front ∷ parts_behind test behind
    go None h =
        slice_split_none test text (λ k d m. fails_before_first test text k d (omega (arith, all h)))
        ∙ ap (λ l. l ∷ []) (sym (is ∙ take_all n text (omega (arith, all h))))
      where
        all : IsGetRangeResult text (length front + 1) (length text) None → length text ≤ n
        all h = omega (arith, h, long)
    go (Some rest) h =
        slice_split_first test text 0 (omega (arith, h.0.0, h.0.1, long))
        ∙ ap (λ l. l ∷ slice_split test (after_first test text)) (sym is)
        ∙ ap (λ l. front ∷ slice_split test l) (ap (λ m. drop (m + 1) text) (sym long) ∙ sym (h.0.2 ∙ between_to_end text (length front + 1) (length text) (omega arith)))

some_parts : (test : ℕ → Bool) (text : List ℕ) → 0 < length (slice_split test text)
some_parts test text = omega (arith, length-slice_split test text)

-- three parts or more are no two arcs
two_arcs_more : (first last : List ℕ) (test : ℕ → Bool) (more : List ℕ) → two_arcs (first ∷ last ∷ slice_split test more) ≡ None
two_arcs_more first last test more = go (slice_split test more) (some_parts test more)
  where
    go : (parts : List (List ℕ)) → 0 < length parts → two_arcs (first ∷ last ∷ parts) ≡ None
    go [] h = absurd (omega arith)
    go (part ∷ parts) h = refl

-- a text with two separators or more is no two arcs
pub no_two_arcs : (test : ℕ → Bool) (text first last : List ℕ) (behind : Option (Bor (List ℕ))) (rest : Bor (List ℕ)) (more : Option (Bor (List ℕ)))
    → slice_split test text ≡ first ∷ parts_behind test behind → behind ≡ Some rest → slice_split test rest.now ≡ last ∷ parts_behind test more
    → is_some more ≡ true → two_arcs (slice_split test text) ≡ None
no_two_arcs test text first last behind rest None parts is others some = let z : ◌≡◌ {A = ℕ} 0 1 = cc (some) in absurd (omega (arith, z))
no_two_arcs test text first last behind rest (Some more) parts is others some =
    ap two_arcs (parts ∙ ap (λ l. first ∷ parts_behind test l) is ∙ ap (λ l. first ∷ l) others) ∙ two_arcs_more first last test more.now
