-- The state just after a founding.
use Rattle.std.proofs.Common.{◌≡◌, ℕ, List, [], Option, sym, ap, ◌∙◌, subst}
use Rattle.arc_rules.specs.Rules.{Meaning}
use Rattle.book.specs.Founding.{Founding, founding_refusal, founded}
use Rattle.book.specs.Law as law
use Rattle.register.specs.Registers.{refusal_of}
use Rattle.runs.specs.Desks.{LedTo, register_of, book_at, rules_at}
use Rattle.runs.specs.declared.desk.Desk.{Desk}
use Rattle.desk.specs.Lines.{at_founding}
use Rattle.desk.specs.States.{Has, IsAt}
use Rattle.desk.proofs.Steps.{has_itself}

pub begun : {P A : Type 0} (panels : P → Meaning) (authorities : A → Meaning) (desk : Desk P A) (given told : Founding) (page_length length_told : ℕ)
    (buffered contents : Option (List ℕ)) → given ≡ told → LedTo (law.at_founding given) [] (rules_at panels authorities desk) (book_at desk)
    → refusal_of (register_of desk) ≡ founding_refusal given → page_length ≡ length_told → buffered ≡ contents
    → IsAt panels authorities desk page_length buffered (at_founding told length_told contents)
begun panels authorities desk given told page_length length_told buffered contents is led refused long same = record {
  rules = sym led.by_rules ∙ ap (λ founding. founding.rules) is;
  refusal = refused ∙ ap founding_refusal is;
  page = long;
  book = sym led.ends ∙ ap founded is;
  output = subst (λ known. Has known contents) (sym same) (has_itself contents);
}
