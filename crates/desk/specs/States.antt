-- The state that a desk and its output are in.
use Rattle.std.specs.Prelude.{ℕ, ◌≡◌, List, Some, None, Option, ⊤}
use Rattle.arc_rules.specs.Rules.{Meaning}
use Rattle.register.specs.Registers.{refusal_of}
use Rattle.runs.specs.Desks.{register_of, book_at, rules_at}
use Rattle.runs.specs.declared.desk.Desk.{Desk}
use Rattle.desk.specs.Lines.{State}

-- a writer has these bytes, where they are known
abbrev pub Has : Option (List ℕ) → Option (List ℕ) → Type 0
Has contents None = ⊤
Has contents (Some bytes) = contents ≡ Some bytes

pub record IsAt {P A : Type 0} (panels : P → Meaning) (authorities : A → Meaning) (desk : Desk P A) (page_length : ℕ) (contents : Option (List ℕ)) (state : State) : Type 0 where
  pub rules : rules_at panels authorities desk ≡ state.rules
  pub refusal : refusal_of (register_of desk) ≡ state.refusal
  pub page : page_length ≡ state.page_length
  pub book : book_at desk ≡ state.book
  pub output : Has contents state.output
