-- Answers as bytes.
use Rattle.std.specs.Prelude.{ℕ, ◌+◌, cond, List, [], ◌∷◌, ◌++◌, map, length, nat_le, decimal, codes, Some, None, Option, Ok, Err, Result}
use Rattle.oid.specs.declared.identifier.Identifier.{Identifier}
use Rattle.oid.specs.Meaning.{arcs_of}
use Rattle.dotted.specs.Writing.{dotted_text}
use Rattle.book.specs.Kinds.{is_authority}
use Rattle.book.specs.Book.{Entry, arc_of_child}
use Rattle.book.specs.Rulings.{refused, named, listed, collected}
use Rattle.book.specs.Runs.{LineAnswer, unread, by_call}
use Rattle.book.specs.declared.kind.Kind.{Kind}
use Rattle.book.specs.declared.kind.Kind.TheVariants.{Panel, Retired, Offered, InHand, Open, Declined}
use Rattle.request.specs.Limits.{least_rest}
use Rattle.request.specs.Refusals.{number_of, letter_of, fault_at}
use Rattle.request.specs.Fields.{space}
use Rattle.request.specs.Reading.{Reading, read_line}
use Rattle.request.specs.declared.child.Child.{Child}
use Rattle.request.specs.declared.refusal.Fault.{Fault}
use Rattle.request.specs.declared.refusal.Refusal.TheVariants.{Book}

abbrev pub feed : ℕ
feed = 10

-- words with one space between them, ended by a line feed
abbrev pub text_line : List (List ℕ) → List ℕ
text_line [] = feed ∷ []
text_line (word ∷ []) = word ++ feed ∷ []
text_line (word ∷ next ∷ words) = word ++ space ∷ text_line (next ∷ words)

-- a yes: `ok` and an identifier
abbrev pub ok_line : List ℕ → List ℕ
ok_line arcs = text_line (codes "ok" ∷ dotted_text arcs ∷ [])

-- a no: `no`, the refusal's number and letter, and the offset
abbrev pub no_line : Fault → List ℕ
no_line fault =
    text_line (codes "no" ∷ decimal (number_of fault.refusal) ∷ (letter_of fault.refusal ∷ []) ∷ decimal fault.offset ∷ [])

-- the first line of an answer
abbrev pub first_line : Result Identifier Fault → List ℕ
first_line (Ok identifier) = ok_line (arcs_of identifier)
first_line (Err fault) = no_line fault

-- the kinds in words
abbrev pub kind_word : Kind → List ℕ
kind_word Panel = codes "panel"
kind_word Retired = codes "retired"
kind_word Offered = codes "offered"
kind_word InHand = codes "inhand"
kind_word Open = codes "open"
kind_word Declined = codes "declined"

-- what a roll shows of an entry, which is a child of the roll's authority
abbrev pub child_of : Entry → Child
child_of entry = record { arc = arc_of_child entry; kind = entry.kind; holder = entry.holder; quota = entry.quota }

-- a child in a roll: arc and kind, and for authorities holder and quota
abbrev pub shown_words : Child → List (List ℕ)
shown_words child = kind_word child.kind ∷ cond (is_authority child.kind) (decimal child.holder ∷ decimal child.quota ∷ []) []

abbrev pub child_line : Child → List ℕ
child_line child = text_line (decimal child.arc ∷ shown_words child)

-- how a roll ends: with all children written, or at the first that is not, with its arc
abbrev pub last_line : Option ℕ → List ℕ
last_line None = text_line (codes "end" ∷ [])
last_line (Some arc) = text_line (codes "more" ∷ decimal arc ∷ [])

-- The lines of a roll behind its `ok` line, by the length of the page and how much of it is written before them. A child's line is written if
-- 16 bytes remain after it; at the first that is not, the roll ends.
unfoldable pub roll_lines : ℕ → ℕ → List Child → List ℕ
roll_lines page_length written [] = last_line None
roll_lines page_length written (child ∷ children) =
    cond (nat_le (written + length (child_line child) + least_rest) page_length)
    (child_line child ++ roll_lines page_length (written + length (child_line child)) children)
    (last_line (Some child.arc))

-- a whole roll
abbrev pub roll_bytes : ℕ → List ℕ → List Child → List ℕ
roll_bytes page_length arcs children = ok_line arcs ++ roll_lines page_length (length (ok_line arcs)) children

-- the no for a line that could not be read; one that could be read gets none
abbrev pub fault_line : Result Reading Fault → List ℕ
fault_line (Ok reading) = []
fault_line (Err fault) = no_line fault

-- where a line's identifier begins; of a line that could not be read nobody asks
abbrev pub offset_in : Result Reading Fault → ℕ
offset_in (Ok reading) = reading.offset
offset_in (Err fault) = 0

-- What is written for a line of an answer, by the length of the page. A no of the book is at the line's identifier. No line makes a collect.
abbrev pub answer_bytes : List ℕ → ℕ → LineAnswer → List ℕ
answer_bytes line page_length unread = fault_line (read_line line)
answer_bytes line page_length (by_call (refused refusal)) = no_line (fault_at (Book refusal) (offset_in (read_line line)))
answer_bytes line page_length (by_call (named identifier)) = ok_line identifier
answer_bytes line page_length (by_call (listed identifier children)) = roll_bytes page_length identifier (map child_of children)
answer_bytes line page_length (by_call (collected holder quota)) = []
