-- What the code's registers and foundings mean, and what a call of one does.
use Rattle.std.specs.Prelude.{ℕ, ◌≡◌, [], Ok, Err, Option, Result}
use Rattle.std.specs.Vec.{SameBlock}
use Rattle.oid.specs.Meaning.{arcs_of}
use Rattle.oid.specs.declared.identifier.Identifier.{Identifier}
use Rattle.arc_rules.specs.Rules.{Meaning}
use Rattle.book.specs.Book.{Book}
use Rattle.book.specs.Rulings.{Answer, refused, named, Ruling, answer_of, book_after}
use Rattle.book.specs.Questions.{Rules}
use Rattle.book.specs.Founding.{Founding}
use Rattle.book.specs.Law.{Start}
use Rattle.register.specs.Kept.{book_in}
use Rattle.register.specs.declared.founding.Founding as code
use Rattle.book.specs.declared.founding.FoundingRefusal.{FoundingRefusal}
use Rattle.book.specs.declared.refusal.Refusal.{Refusal}
use Rattle.register.specs.declared.register.Register.{Register}

-- a register's book, by its rows
abbrev pub book_of : {P A : Type 0} → Register P A → Book
book_of register = book_in register.rows.items

-- its rules, by what the two arc rules that it owns mean
abbrev pub rules_of : {P A : Type 0} → (P → Meaning) → (A → Meaning) → Register P A → Rules
rules_of panels authorities register = record { panels = panels register.panels; authorities = authorities register.authorities }

-- the serial that its Grants have
abbrev pub serial_of : {P A : Type 0} → Register P A → ℕ
serial_of register = register.serial

-- whether its founding was refused, and for what
abbrev pub refusal_of : {P A : Type 0} → Register P A → Option FoundingRefusal
refusal_of register = register.refused_for

-- what the code's `Founding` means
abbrev pub founding_of : {P A : Type 0} → (P → Meaning) → (A → Meaning) → code.Founding P A → Founding
founding_of panels authorities founding = record {
  root = arcs_of founding.root;
  holder = founding.holder;
  quota = founding.quota;
  rules = record { panels = panels founding.panels; authorities = authorities founding.authorities };
}

-- a register just founded, as the start of runs: nothing was given before
abbrev pub start_of : {P A : Type 0} → (P → Meaning) → (A → Meaning) → Register P A → Start
start_of panels authorities register =
    record { rules = rules_of panels authorities register; book = book_of register; given_before = [] }

-- what a call that names an identifier is answered
abbrev pub answer_named : Result Identifier Refusal → Answer
answer_named (Ok identifier) = named (arcs_of identifier)
answer_named (Err refusal) = refused refusal

-- A call follows a ruling at a book: its answer is the ruling's, and so is the book that it leaves.
pub record Follows (ruling : Ruling) (before : Book) (answer : Answer) (after : Book) : Type 0 where
  pub answers : answer ≡ answer_of ruling
  pub leaves : after ≡ book_after ruling before

-- A call changes no more of a register than its rows, and leaves these in the memory that they had.
pub record KeepsRest {P A : Type 0} (before after : Register P A) : Type 0 where
  pub panels : after.panels ≡ before.panels
  pub authorities : after.authorities ≡ before.authorities
  pub serial : serial_of after ≡ serial_of before
  pub refusal : refusal_of after ≡ refusal_of before
  pub memory : SameBlock before.rows after.rows
