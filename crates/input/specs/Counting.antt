-- How lines are counted.
use Rattle.std.specs.Prelude.{ℕ, ◌+◌, ◌-◌, ◌^◌, min, Bool, not, cond, List, ◌++◌, length, codes, decimal, count_by}
use Rattle.std.specs.List.{fold}
use Rattle.input.specs.declared.tally.Tally.{Tally}

-- a count that can grow no more stays
abbrev pub most_counted : ℕ
most_counted = 2 ^ 64 - 1

-- the tally after one line more, which is good or not
abbrev pub counted : Bool → Tally → Tally
counted is_good before = record {
  read = min (before.read + 1) most_counted;
  refused = cond is_good before.refused (min (before.refused + 1) most_counted);
}

-- the tally after more lines, one after the other
abbrev pub all_counted : (List ℕ → Bool) → List (List ℕ) → Tally → Tally
all_counted good lines before = fold (λ tally line. counted (good line) tally) before lines

-- the tally of no line
abbrev pub none_counted : Tally
none_counted = record { read = 0; refused = 0 }

-- the tally of some lines: how many they are, and how many of them are not good
abbrev pub tally_of : (List ℕ → Bool) → List (List ℕ) → Tally
tally_of good lines = record {
  read = min (length lines) most_counted;
  refused = min (count_by (λ line. not (good line)) lines) most_counted;
}

-- a tally in words, as the programs print it
abbrev pub counts_said : Tally → List ℕ
counts_said tally = decimal tally.read ++ (codes " read, " ++ (decimal tally.refused ++ codes " refused"))
