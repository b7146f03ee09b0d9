-- What is written of some lines: an answer to each, and then the counts.
use Rattle.std.specs.Prelude.{ℕ, Bool, List, [], ◌∷◌, ◌++◌, Ok, Err, codes, Option, Result}
use Rattle.std.specs.Io.KnownBytes.{prepend_known}
use Rattle.std.specs.List.{flat_map}
use Rattle.input.specs.Limits.{line_feed}
use Rattle.input.specs.Counting.{tally_of, counts_said}

-- an answer in words: `ok` and what was found, or `no` and the trouble, as they are printed; none where what is
-- printed is not stated
abbrev pub in_words : {Found Trouble : Type 0} → (Found → Option (List ℕ)) → (Trouble → Option (List ℕ)) → Result Found Trouble → Option (List ℕ)
in_words found_text trouble_text (Ok found) = prepend_known (codes "ok ") (found_text found)
in_words found_text trouble_text (Err trouble) = prepend_known (codes "no ") (trouble_text trouble)

-- the answers to some lines, each on a line of its own
abbrev pub answers : (List ℕ → List ℕ) → List (List ℕ) → List ℕ
answers answer lines = flat_map (λ line. answer line ++ line_feed ∷ []) lines

-- the answers, and the counts behind them
abbrev pub report : (List ℕ → Bool) → (List ℕ → List ℕ) → List (List ℕ) → List ℕ
report good answer lines = answers answer lines ++ (counts_said (tally_of good lines) ++ line_feed ∷ [])
