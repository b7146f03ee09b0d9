-- What can be read off an answer's bytes.
use Rattle.std.specs.Prelude.{ℕ, ◌≡◌, ◌≢◌, ◌<◌, ◌^◌, true, cond, List, [], ◌∷◌, Some, None, Ok, Err, Option, Result, ◌==◌, codes}
use Rattle.std.specs.Cmp.Lexicographic.{pointwise}
use Rattle.std.specs.List.{before_first}
use Rattle.std.specs.Option.{ForSome}
use Rattle.std.specs.Result.{result_ok}
use Rattle.oid.specs.Meaning.{arcs_of}
use Rattle.oid.specs.Tree.{is_identifier}
use Rattle.oid.specs.declared.identifier.Identifier.{Identifier}
use Rattle.dotted.specs.Pieces.{numeral}
use Rattle.dotted.specs.Reading.{read_dotted}
use Rattle.book.specs.Kinds.{is_authority}
use Rattle.book.specs.Runs.{LineAnswer, identifier_in}
use Rattle.request.specs.Refusals.{number_of, letter_of}
use Rattle.request.specs.Fields.{words}
use Rattle.request.specs.Answers.{feed, child_line, last_line, answer_bytes}
use Rattle.request.specs.declared.child.Child.{Child}
use Rattle.request.specs.declared.refusal.Fault.{Fault}

-- the words of the first line of some bytes
abbrev pub first_words : List ℕ → List (List ℕ)
first_words bytes = words (before_first (λ byte. byte == feed) bytes)

-- The identifier in an `ok` line, if such a line comes first.
abbrev pub identifier_by : List (List ℕ) → Option (List ℕ)
identifier_by (word ∷ text ∷ []) = cond (pointwise ◌==◌ (codes "ok") word) (result_ok (read_dotted text)) None
identifier_by words = None

abbrev pub identifier_read : List ℕ → Option (List ℕ)
identifier_read bytes = identifier_by (first_words bytes)

-- A no, by what is told of it.
pub record No : Type 0 where
  pub number : ℕ
  pub letter : ℕ
  pub offset : ℕ

-- A number, a letter and an offset, if both numbers are written as numbers are.
abbrev pub no_with : Option ℕ → ℕ → Option ℕ → Option No
no_with (Some number) letter (Some offset) = Some (record { number = number; letter = letter; offset = offset })
no_with number letter offset = None

-- The number, the letter and the offset in a `no` line, if such a line comes first.
abbrev pub no_by : List (List ℕ) → Option No
no_by (word ∷ number ∷ (letter ∷ []) ∷ offset ∷ []) = cond (pointwise ◌==◌ (codes "no") word) (no_with (numeral number) letter (numeral offset)) None
no_by words = None

abbrev pub no_read : List ℕ → Option No
no_read bytes = no_by (first_words bytes)

-- what is told of a fault
abbrev pub told_of : Fault → No
told_of fault = record { number = number_of fault.refusal; letter = letter_of fault.refusal; offset = fault.offset }

-- A page tells for which answer its first line was written.
abbrev pub ReadsBack : Result Identifier Fault → List ℕ → Type 0
ReadsBack (Ok identifier) page = (identifier_read page ≡ Some (arcs_of identifier)) × (no_read page ≡ None)
ReadsBack (Err fault) page = (identifier_read page ≡ None) × (no_read page ≡ Some (told_of fault))

-- From what is written for a line, of whatever answer, can be read back the identifier that the answer has.
abbrev pub IdentifiersReadBack : Type 0
IdentifiersReadBack = (line : List ℕ) (page_length : ℕ) (answer : LineAnswer)
    → ForSome (identifier_in answer) (λ identifier. is_identifier identifier ≡ true)
    → identifier_read (answer_bytes line page_length answer) ≡ identifier_in answer

-- A child's numbers have no more than 64 bits.
pub record Within64Bits (child : Child) : Type 0 where
  pub arc : child.arc < 2 ^ 64
  pub holder : child.holder < 2 ^ 64
  pub quota : child.quota < 2 ^ 64

-- A roll shows two children alike.
pub record ShownAlike (one other : Child) : Type 0 where
  pub arc : one.arc ≡ other.arc
  pub kind : one.kind ≡ other.kind
  pub holder : is_authority one.kind ≡ true → one.holder ≡ other.holder
  pub quota : is_authority one.kind ≡ true → one.quota ≡ other.quota

-- Two lines of children that are equal are of children that a roll shows alike; and no such line ends a roll.
pub record ChildLinesApart : Type 0 where
  pub alike : (one other : Child) → Within64Bits one → Within64Bits other → child_line one ≡ child_line other → ShownAlike one other
  pub no_last : (child : Child) (next : Option ℕ) → Within64Bits child → child_line child ≢ last_line next
