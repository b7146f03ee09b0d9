-- What the programs' options found, and what is told of a founding that is refused.
use Rattle.std.specs.Prelude.{ℕ, List, [], ◌++◌, codes, decimal, None, Some, Option}
use Rattle.arc_rules.specs.Kept.{range_set, listed_set}
use Rattle.arc_rules.specs.Rules.{Meaning}
use Rattle.arc_rules.specs.declared.listed.Listed.{Listed}
use Rattle.arc_rules.specs.declared.range.Range.{Range}
use Rattle.book.specs.Founding.{Founding, founding_number_of}
use Rattle.book.specs.Words.{founding_words}
use Rattle.book.specs.declared.founding.FoundingRefusal.{FoundingRefusal}
use Rattle.options.specs.Options.{Held}

-- what the arc rules of options mean
abbrev pub range_meaning : Range → Meaning
range_meaning range = record { set = range_set range }

abbrev pub listed_meaning : Listed → Meaning
listed_meaning listed = record { set = listed_set listed }

-- the founding that options tell
abbrev pub founding_told : Held → Founding
founding_told held = record {
  root = held.root;
  holder = held.holder;
  quota = held.quota;
  rules = record { panels = record { set = held.panels }; authorities = record { set = held.authorities } };
}

-- the serial of a program's one register
abbrev pub program_serial : ℕ
program_serial = 1

-- What is told of a founding: of a refusal its number, and what is wrong in words; of none nothing.
abbrev pub refusal_told : Option FoundingRefusal → List ℕ
refusal_told None = []
refusal_told (Some refusal) = codes "the founding is refused: " ++ (decimal (founding_number_of refusal) ++ (codes " " ++ (founding_words refusal ++ codes "\n")))
