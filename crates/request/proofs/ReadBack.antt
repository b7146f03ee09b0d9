-- What is read off a page at whose front stands the first line of an answer.
use Rattle.std.proofs.Common.{◌≡◌, ℕ, inl, ◌^◌, ◌<◌, true, List, [], ◌∷◌, ◌++◌, length, drop, Some, None, Ok, Err, Result, map, decimal, codes, refl, sym, ap, ◌∙◌, append-nil, arith}
use Rattle.std.specs.Result.{ForErr, result_ok}
use Rattle.std.proofs.lemmas.Bool.{and_from}
use Rattle.oid.specs.Meaning.{arcs_of}
use Rattle.oid.specs.Pages.{at_front}
use Rattle.oid.specs.Tree.{is_identifier}
use Rattle.oid.specs.declared.identifier.Identifier as code_identifier
use Rattle.dotted.specs.Writing.{dotted_text}
use Rattle.dotted.proofs.Theorems.{reads_back}
use Rattle.book.specs.Rulings.{refused, named, listed, collected}
use Rattle.book.specs.Runs.{unread, by_call, Recovers}
use Rattle.request.specs.RequestLines.{request_lines}
use Rattle.request.specs.Answers.{ok_line, no_line, first_line, child_of, roll_lines, fault_line, offset_in}
use Rattle.request.specs.ReadBack.{first_words, identifier_by, identifier_read, no_with, no_by, no_read, told_of, ReadsBack, IdentifiersReadBack}
use Rattle.request.specs.Reading.{Reading, read_line}
use Rattle.request.specs.Refusals.{number_of, letter_of, fault_at}
use Rattle.request.specs.declared.refusal.Fault.{Fault}
use Rattle.request.specs.declared.refusal.Refusal.{Refusal}
use Rattle.request.specs.declared.refusal.Refusal.TheVariants.{Line, Identifier, Book}
use Rattle.request.proofs.Fitting.{two_digits}
use Rattle.request.proofs.Lined.{next_word, lined}
use Rattle.request.proofs.Spelled.{visible, decimal_visible, identifier_visible, numeral_read}

-- the words of an `ok` line
ok_words : (arcs bytes : List ℕ) → is_identifier arcs ≡ true → first_words (ok_line arcs ++ bytes) ≡ codes "ok" ∷ dotted_text arcs ∷ []
ok_words arcs bytes h =
    lined (codes "ok") (dotted_text arcs ∷ []) bytes (and_from (visible (dotted_text arcs)) _ (identifier_visible [] arcs (inl refl) h) refl)

-- the identifier is read from them
ok_read : (arcs bytes : List ℕ) → is_identifier arcs ≡ true → identifier_read (ok_line arcs ++ bytes) ≡ Some arcs
ok_read arcs bytes h = ap identifier_by (ok_words arcs bytes h) ∙ ap result_ok (reads_back arcs h)

-- and nothing as from a `no` line
ok_no_no : (arcs bytes : List ℕ) → is_identifier arcs ≡ true → no_read (ok_line arcs ++ bytes) ≡ None
ok_no_no arcs bytes h = ap no_by (ok_words arcs bytes h)

-- a refusal's letter is visible
letter_visible : (refusal : Refusal) → visible (letter_of refusal ∷ []) ≡ true
letter_visible (Line refusal) = refl
letter_visible (Identifier refusal) = refl
letter_visible (Book refusal) = refl

-- the number, the letter and the offset are read from a `no` line
no_told : (fault : Fault) (bytes : List ℕ) → fault.offset < 2 ^ 64 → no_read (no_line fault ++ bytes) ≡ Some (told_of fault)
no_told fault bytes h =
    let number = number_of fault.refusal in
    let letter = letter_of fault.refusal in
    let small : number < 2 ^ 64 = omega (arith, two_digits fault.refusal) in
    let each =
    and_from (visible (decimal number)) _ (decimal_visible number small)
    (and_from (visible (letter ∷ [])) _ (letter_visible fault.refusal) (and_from (visible (decimal fault.offset)) _ (decimal_visible fault.offset h) refl)) in
    ap no_by (lined (codes "no") (decimal number ∷ (letter ∷ []) ∷ decimal fault.offset ∷ []) bytes each)
    ∙ (λ k. no_with (numeral_read number small k) letter (numeral_read fault.offset h k))

-- no identifier is read from words of which the first is `no`
no_identifier : (others : List (List ℕ)) → identifier_by (codes "no" ∷ others) ≡ None
no_identifier [] = refl
no_identifier (text ∷ []) = refl
no_identifier (text ∷ next ∷ others) = refl

-- nor from a `no` line, whatever the fault
no_none : (fault : Fault) (bytes : List ℕ) → identifier_read (no_line fault ++ bytes) ≡ None
no_none fault bytes =
    let behind = drop 3 (no_line fault ++ bytes) in
    ap identifier_by (next_word (codes "no") behind refl) ∙ no_identifier (first_words behind)

-- a first line that is put at the front of a page is read back
pub reads_it_back : (answer : Result code_identifier.Identifier Fault) (page : List ℕ) → ForErr answer (λ fault. fault.offset < 2 ^ 64)
    → ReadsBack answer (at_front (first_line answer) page)
reads_it_back (Ok identifier) page small =
    let rest = drop (length (ok_line (arcs_of identifier))) page in
    (ok_read (arcs_of identifier) rest identifier.rule, ok_no_no (arcs_of identifier) rest identifier.rule)
reads_it_back (Err fault) page small =
    let rest = drop (length (no_line fault)) page in
    (no_none fault rest, no_told fault rest (small fault refl))

-- bytes with nothing behind them
alone : (bytes : List ℕ) → identifier_read bytes ≡ identifier_read (bytes ++ [])
alone bytes = ap identifier_read (sym (append-nil bytes))

-- no identifier is read from what is written of a fault in a line's text, or of none
no_fault_read : (reading : Result Reading Fault) → identifier_read (fault_line reading) ≡ None
no_fault_read (Ok reading) = refl
no_fault_read (Err fault) = alone (no_line fault) ∙ no_none fault []

pub identifiers_read_back : IdentifiersReadBack
identifiers_read_back line page unread is = no_fault_read (read_line line)
identifiers_read_back line page (by_call (refused refusal)) is =
    let fault = fault_at (Book refusal) (offset_in (read_line line)) in
    alone (no_line fault) ∙ no_none fault []
identifiers_read_back line page (by_call (named arcs)) is = alone (ok_line arcs) ∙ ok_read arcs [] (is arcs refl)
identifiers_read_back line page (by_call (listed arcs children)) is =
    ok_read arcs (roll_lines page (length (ok_line arcs)) (map child_of children)) (is arcs refl)
identifiers_read_back line page (by_call (collected holder quota)) is = refl

pub lines_recover : Recovers request_lines
lines_recover line page_length answer room identified = identifiers_read_back line page_length answer identified
