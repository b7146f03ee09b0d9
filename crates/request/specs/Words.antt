-- Refusals and faults of lines in words, as programs print them.
use Rattle.std.specs.Prelude.{ℕ, List, [], ◌∷◌, ◌++◌, codes, decimal}
use Rattle.oid.specs.Words as oid
use Rattle.book.specs.Words as book
use Rattle.request.specs.Limits.{least_page, least_line, most_line}
use Rattle.request.specs.Refusals.{number_of, letter_of}
use Rattle.request.specs.declared.page.PageRefusal.{PageRefusal}
use Rattle.request.specs.declared.page.PageRefusal.TheVariants.{TooShort}
use Rattle.request.specs.declared.refusal.LineRefusal.{LineRefusal}
use Rattle.request.specs.declared.refusal.LineRefusal.TheVariants.{LineLength, UnknownVerb, WrongFields, NotANumber}
use Rattle.request.specs.declared.refusal.Refusal.{Refusal}
use Rattle.request.specs.declared.refusal.Refusal.TheVariants.{Line, Identifier, Book}
use Rattle.request.specs.declared.refusal.Fault.{Fault}

-- what is wrong with a page
abbrev pub page_words : PageRefusal → List ℕ
page_words TooShort = codes "the page has fewer than " ++ (decimal least_page ++ codes " bytes")

-- what is wrong with a line; 'here' is the fault's offset
abbrev pub line_words : LineRefusal → List ℕ
line_words LineLength = codes "a line has " ++ (decimal least_line ++ (codes " to " ++ (decimal most_line ++ codes " bytes")))
line_words UnknownVerb = codes "before any space stands none of grant, claim, offer, accept, decline, retire and roll"
line_words WrongFields = codes "the fields are not as many as the verb has, with one space between and none at the ends"
line_words NotANumber = codes "the field here is not a number in its range"

abbrev pub words_of : Refusal → List ℕ
words_of (Line refusal) = line_words refusal
words_of (Identifier refusal) = oid.words_of refusal
words_of (Book refusal) = book.words_of refusal

-- the number and the letter of a fault's refusal, its offset, and the words
abbrev pub fault_text : Fault → List ℕ
fault_text fault =
    decimal (number_of fault.refusal) ++ (codes " " ++ ((letter_of fault.refusal ∷ []) ++ (codes " " ++ (decimal fault.offset ++ (codes " " ++ words_of fault.refusal)))))
