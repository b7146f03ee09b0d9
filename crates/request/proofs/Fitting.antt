-- How long lines can be, by the digits of the arc limit.
use Rattle.std.proofs.Common.{◌≡◌, ℕ, ◌+◌, ◌^◌, ◌<◌, ◌≤◌, true, List, [], ◌∷◌, ◌++◌, length, decimal, Some, None, Option, Ok, Err, Result, refl, arith}
use Rattle.std.specs.Option.{ForSome}
use Rattle.std.specs.Result.{ForErr}
use Rattle.std.proofs.lemmas.Bool.{le-leb, leb-true}
use Rattle.std.proofs.lemmas.Fmt.{length-decimal-le}
use Rattle.std.proofs.lemmas.List.{length-append}
use Rattle.oid.specs.Arcs.{arc_limit, is_arc}
use Rattle.oid.specs.Meaning.{arcs_of}
use Rattle.oid.specs.Pages.{fits}
use Rattle.oid.specs.Refusals as oid
use Rattle.oid.specs.Tree.{is_identifier}
use Rattle.oid.specs.declared.identifier.Identifier as code_identifier
use Rattle.oid.specs.declared.refusal.Refusal as code
use Rattle.oid.specs.declared.refusal.Refusal.TheVariants.{NotDotted, LeadingZero, ArcTooLarge, ArcCount, FirstArcs, Header, Unfinished, Padded, PageTooShort}
use Rattle.oid.proofs.Arcs.{arc_digits, limit_decimal}
use Rattle.oid.proofs.Tree.{keeps}
use Rattle.dotted.specs.Writing.{dotted_text}
use Rattle.dotted.proofs.Texts.{arc_fits, text_within}
use Rattle.book.specs.Refusals as book
use Rattle.book.specs.declared.refusal.Refusal as calls
use Rattle.book.specs.declared.refusal.Refusal.TheVariants.{NotInBook, WrongKind, NotHolder, TooDeep, TooLittleLeft, NoArc, ArcTaken, BookFull, NotInHand}
use Rattle.request.specs.Answers.{feed, ok_line, no_line, first_line, last_line}
use Rattle.request.specs.Limits.{least_page, least_rest, has_room}
use Rattle.request.specs.Refusals.{number_of, letter_of}
use Rattle.request.specs.Fitting.{LinesFit}
use Rattle.request.specs.declared.refusal.Fault.{Fault}
use Rattle.request.specs.declared.refusal.LineRefusal.TheVariants.{LineLength, UnknownVerb, WrongFields, NotANumber}
use Rattle.request.specs.declared.refusal.Refusal.{Refusal}
use Rattle.request.specs.declared.refusal.Refusal.TheVariants.{Line, Identifier, Book}

bounded : (arc : ℕ) → is_arc arc ≡ true → length (decimal arc) ≤ arc_digits
bounded arc h =
    length-decimal-le arc_digits arc (omega arith) (omega (arith, leb-true arc arc_limit h, limit_decimal)) (arc_fits arc h)

yes_fits : (arcs : List ℕ) → is_identifier arcs ≡ true → length (ok_line arcs) + least_rest ≤ least_page
yes_fits arcs h =
    omega (arith, length-append (dotted_text arcs) (feed ∷ []), text_within arc_digits bounded arcs h, (keeps arcs h).short)

-- no refusal's number has more than two digits
by_codec : (refusal : code.Refusal) → oid.number_of refusal < 100
by_codec NotDotted = omega arith
by_codec LeadingZero = omega arith
by_codec ArcTooLarge = omega arith
by_codec ArcCount = omega arith
by_codec FirstArcs = omega arith
by_codec Header = omega arith
by_codec Unfinished = omega arith
by_codec Padded = omega arith
by_codec PageTooShort = omega arith

by_book : (refusal : calls.Refusal) → book.number_of refusal < 100
by_book NotInBook = omega arith
by_book WrongKind = omega arith
by_book NotHolder = omega arith
by_book TooDeep = omega arith
by_book TooLittleLeft = omega arith
by_book NoArc = omega arith
by_book ArcTaken = omega arith
by_book BookFull = omega arith
by_book NotInHand = omega arith

pub two_digits : (refusal : Refusal) → number_of refusal < 100
two_digits (Line LineLength) = omega arith
two_digits (Line UnknownVerb) = omega arith
two_digits (Line WrongFields) = omega arith
two_digits (Line NotANumber) = omega arith
two_digits (Identifier refusal) = by_codec refusal
two_digits (Book refusal) = by_book refusal

no_fits : (fault : Fault) → fault.offset < 2 ^ 64 → length (no_line fault) + least_rest ≤ least_page
no_fits fault h =
    let number = number_of fault.refusal in
    let small = two_digits fault.refusal in
    let behind = letter_of fault.refusal ∷ 32 ∷ (decimal fault.offset ++ feed ∷ []) in
    omega (arith, length-append (decimal number) (32 ∷ behind), length-append (decimal fault.offset) (feed ∷ []), length-decimal-le 2 number (omega arith) (omega (arith, small)) (omega (arith, small)), length-decimal-le 20 fault.offset (omega arith) (omega (arith, h)) h)

last_fits : (next : Option ℕ) → ForSome next (λ arc. is_arc arc ≡ true) → length (last_line next) ≤ least_rest
last_fits None h = omega arith
last_fits (Some arc) h = omega (arith, length-append (decimal arc) (feed ∷ []), bounded arc (h arc refl))

-- each first line fits on a page that is long enough
pub first_fits : (answer : Result code_identifier.Identifier Fault) (page : List ℕ) → ForErr answer (λ fault. fault.offset < 2 ^ 64)
    → has_room (length page) ≡ true → fits 0 (first_line answer) page ≡ true
first_fits (Ok identifier) page small room =
    le-leb (0 + length (ok_line (arcs_of identifier))) (length page) (omega (arith, yes_fits (arcs_of identifier) identifier.rule, leb-true least_page (length page) room))
first_fits (Err fault) page small room =
    le-leb (0 + length (no_line fault)) (length page) (omega (arith, no_fits fault (small fault refl), leb-true least_page (length page) room))

pub lines_fit : LinesFit
lines_fit = record {
  yes_fits = yes_fits;
  no_fits = no_fits;
  last_fits = last_fits;
  both_fit = λ arcs next h others. omega (arith, yes_fits arcs h, last_fits next others);
}
