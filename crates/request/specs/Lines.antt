-- Request lines as they are written: what it is for a line to ask for a call.
use Rattle.std.specs.Prelude.{ℕ, ◌≡◌, ◌⊎◌, Bool, true, false, ◌&&◌, List, [], ◌∷◌, ◌++◌, length, take, drop, decimal, Ok, Result}
use Rattle.std.specs.List.{join_with_byte}
use Rattle.oid.specs.Arcs.{is_arc}
use Rattle.oid.specs.Tree.{is_identifier}
use Rattle.dotted.specs.Prefix.{prefix, prefix_length}
use Rattle.dotted.specs.Writing.{dotted_text}
use Rattle.book.specs.Calls.{Call, grant, claim, offer, accept, decline, retire, roll, collect, accept_grant, decline_grant}
use Rattle.book.specs.Ranges.{is_holder, is_quota}
use Rattle.request.specs.Limits.{is_line}
use Rattle.request.specs.Verbs.{verb_text}
use Rattle.request.specs.Fields.{space}
use Rattle.request.specs.Reading.{Reading, read_line}
use Rattle.request.specs.declared.refusal.Fault.{Fault}
use Rattle.request.specs.declared.verb.Verb.TheVariants.{Grant, Claim, Offer, Accept, Decline, Retire, Roll}

-- the identifier that a call names
abbrev pub identifier_of : Call → List ℕ
identifier_of (grant holder o) = o
identifier_of (claim holder o arc) = o
identifier_of (offer holder o quota taker) = o
identifier_of (accept taker t) = t
identifier_of (decline taker t) = t
identifier_of (retire holder t) = t
identifier_of (roll holder o from) = o
identifier_of (collect taker t) = t
identifier_of (accept_grant t) = t
identifier_of (decline_grant t) = t

-- the words of a call's line, with some text for its identifier; none of a call that no line makes
abbrev pub call_words : Call → List ℕ → List (List ℕ)
call_words (grant holder o) text = verb_text Grant ∷ decimal holder ∷ text ∷ []
call_words (claim holder o arc) text = verb_text Claim ∷ decimal holder ∷ text ∷ decimal arc ∷ []
call_words (offer holder o quota taker) text = verb_text Offer ∷ decimal holder ∷ text ∷ decimal quota ∷ decimal taker ∷ []
call_words (accept taker t) text = verb_text Accept ∷ decimal taker ∷ text ∷ []
call_words (decline taker t) text = verb_text Decline ∷ decimal taker ∷ text ∷ []
call_words (retire holder t) text = verb_text Retire ∷ decimal holder ∷ text ∷ []
call_words (roll holder o from) text = verb_text Roll ∷ decimal holder ∷ text ∷ decimal from ∷ []
call_words call text = []

-- the line, with one space between the words
abbrev pub line_of : Call → List ℕ → List ℕ
line_of call text = join_with_byte space (call_words call text)

-- what stands in the line before the identifier
abbrev pub front_of : Call → List ℕ
front_of call = join_with_byte space (take 2 (call_words call [])) ++ space ∷ []

-- all numbers of the call are in their ranges, and what it names is an identifier
abbrev pub is_call : Call → Bool
is_call (grant holder o) = is_holder holder && is_identifier o
is_call (claim holder o arc) = is_holder holder && (is_identifier o && is_arc arc)
is_call (offer holder o quota taker) = is_holder holder && (is_identifier o && (is_quota quota && is_holder taker))
is_call (accept taker t) = is_holder taker && is_identifier t
is_call (decline taker t) = is_holder taker && is_identifier t
is_call (retire holder t) = is_holder holder && is_identifier t
is_call (roll holder o from) = is_holder holder && (is_identifier o && is_arc from)
is_call call = false

-- A line asks for a call: it is the call's line, with the prefix before its identifier or without, and no shorter or longer than lines
-- are; and the offset is where the identifier's field begins.
pub record Asks (line : List ℕ) (reading : Reading) : Type 0 where
  pub sized : is_line line ≡ true
  pub call : is_call reading.call ≡ true
  pub prefix_or_none : List ℕ
  pub prefixed : (prefix_or_none ≡ []) ⊎ (prefix_or_none ≡ prefix)
  pub written : line ≡ line_of reading.call (prefix_or_none ++ dotted_text (identifier_of reading.call))
  pub placed : reading.offset ≡ length (front_of reading.call)

-- A reader that answers so reads the line as a call exactly when the line asks for it.
abbrev pub ReadsExactly : List ℕ → Result Reading Fault → Type 0
ReadsExactly line answer = (reading : Reading) → (answer ≡ Ok reading → Asks line reading) × (Asks line reading → answer ≡ Ok reading)

-- a line without the prefix of what begins at an offset
abbrev pub unprefixed : ℕ → List ℕ → List ℕ
unprefixed offset line = take offset line ++ drop (prefix_length (drop offset line)) (drop offset line)

-- Two lines that are read as one call are equal but for their identifiers' prefix.
abbrev pub EqualButPrefix : Type 0
EqualButPrefix = (one other : List ℕ) (reading another : Reading) → read_line one ≡ Ok reading → read_line other ≡ Ok another
    → reading.call ≡ another.call → unprefixed reading.offset one ≡ unprefixed another.offset other
