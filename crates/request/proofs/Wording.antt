-- The line of a verb, of numbers that its form takes and of an identifier; and the call that it asks for.
use Rattle.std.proofs.Common.{◌≡◌, ℕ, ◌+◌, ◌⊎◌, true, false, List, [], ◌∷◌, ◌++◌, map, length, take, drop, decimal, refl, ap, arith}
use Rattle.std.specs.List.{join_with_byte}
use Rattle.std.proofs.lemmas.Bool.{and_parts, and_from, both_ways}
use Rattle.std.proofs.lemmas.List.{length-append}
use Rattle.oid.specs.Tree.{is_identifier}
use Rattle.dotted.specs.Prefix.{prefix}
use Rattle.dotted.specs.Writing.{dotted_text}
use Rattle.book.specs.Calls.{Call, grant, claim, offer, accept, decline, retire, roll, collect, accept_grant, decline_grant}
use Rattle.book.specs.Ranges.{is_holder}
use Rattle.request.specs.Fields.{space, in_range}
use Rattle.request.specs.Limits.{is_line}
use Rattle.request.specs.Lines.{identifier_of, call_words, front_of, is_call}
use Rattle.request.specs.Reading.{Reading, call_by}
use Rattle.request.specs.Verbs.{Sort, form_of, verb_text}
use Rattle.request.specs.declared.verb.Verb.{Verb}
use Rattle.request.specs.declared.verb.Verb.TheVariants.{Grant, Claim, Offer, Accept, Decline, Retire, Roll}

-- numbers, as many as the sorts, each in the range of its sort
pub data InRanges : List Sort → List ℕ → Type 0 where
  none : InRanges [] []
  one_more : {sort : Sort} {form : List Sort} {number : ℕ} {numbers : List ℕ} → in_range sort number ≡ true → InRanges form numbers
      → InRanges (sort ∷ form) (number ∷ numbers)

-- the first two words of a line, with a space behind each
abbrev pub front_with : Verb → ℕ → List ℕ
front_with verb holder = join_with_byte space (verb_text verb ∷ decimal holder ∷ []) ++ space ∷ []

-- its words, with some text for the identifier and other numbers behind that
abbrev pub words_with : Verb → ℕ → List ℕ → List ℕ → List (List ℕ)
words_with verb holder text numbers = verb_text verb ∷ decimal holder ∷ text ∷ map decimal numbers

-- what such a line reads to
abbrev pub reading_with : Verb → ℕ → List ℕ → List ℕ → Reading
reading_with verb holder arcs numbers = record { call = call_by verb (holder ∷ numbers) arcs; offset = length (front_with verb holder) }

-- A line that is written with a verb, with numbers that its form takes, and with an identifier and the prefix before that or nothing.
pub record LineWith (line : List ℕ) (verb : Verb) (holder : ℕ) (before arcs numbers : List ℕ) : Type 0 where
  pub sized : is_line line ≡ true
  pub holds : is_holder holder ≡ true
  pub named : is_identifier arcs ≡ true
  pub ranged : InRanges (drop 2 (form_of verb)) numbers
  pub prefixed : (before ≡ []) ⊎ (before ≡ prefix)
  pub written : line ≡ join_with_byte space (words_with verb holder (before ++ dotted_text arcs) numbers)

-- the words of the call that such a line makes
pub words_made : (verb : Verb) (holder : ℕ) (arcs text numbers : List ℕ) → InRanges (drop 2 (form_of verb)) numbers
    → call_words (call_by verb (holder ∷ numbers) arcs) text ≡ words_with verb holder text numbers
words_made Grant holder arcs text _ none = refl
words_made Claim holder arcs text _ (one_more r none) = refl
words_made Offer holder arcs text _ (one_more r (one_more s none)) = refl
words_made Accept holder arcs text _ none = refl
words_made Decline holder arcs text _ none = refl
words_made Retire holder arcs text _ none = refl
words_made Roll holder arcs text _ (one_more r none) = refl

-- the call's identifier
pub identifier_made : (verb : Verb) (numbers arcs : List ℕ) → identifier_of (call_by verb numbers arcs) ≡ arcs
identifier_made Grant numbers arcs = refl
identifier_made Claim numbers arcs = refl
identifier_made Offer numbers arcs = refl
identifier_made Accept numbers arcs = refl
identifier_made Decline numbers arcs = refl
identifier_made Retire numbers arcs = refl
identifier_made Roll numbers arcs = refl

-- all that the call names is in its range
pub call_made : (verb : Verb) (holder : ℕ) (arcs numbers : List ℕ) → is_holder holder ≡ true → is_identifier arcs ≡ true
    → InRanges (drop 2 (form_of verb)) numbers → is_call (call_by verb (holder ∷ numbers) arcs) ≡ true
call_made Grant holder arcs _ h i none = and_from (is_holder holder) _ h i
call_made Claim holder arcs _ h i (one_more r none) = and_from (is_holder holder) _ h (and_from (is_identifier arcs) _ i r)
call_made Offer holder arcs _ h i (one_more r (one_more s none)) =
    and_from (is_holder holder) _ h (and_from (is_identifier arcs) _ i (and_from _ _ r s))
call_made Accept holder arcs _ h i none = and_from (is_holder holder) _ h i
call_made Decline holder arcs _ h i none = and_from (is_holder holder) _ h i
call_made Retire holder arcs _ h i none = and_from (is_holder holder) _ h i
call_made Roll holder arcs _ h i (one_more r none) = and_from (is_holder holder) _ h (and_from (is_identifier arcs) _ i r)

-- A call that a line makes, by its verb, its numbers and its identifier.
pub record Made (call : Call) : Type 0 where
  pub verb : Verb
  pub holder : ℕ
  pub numbers : List ℕ
  pub is : call ≡ call_by verb (holder ∷ numbers) (identifier_of call)
  pub holds : is_holder holder ≡ true
  pub named : is_identifier (identifier_of call) ≡ true
  pub ranged : InRanges (drop 2 (form_of verb)) numbers

-- each call with all in range, but for those that no line makes, is one
pub made : (call : Call) → is_call call ≡ true → Made call
made (grant holder o) h =
    let p = and_parts (is_holder holder) _ h in
    record { verb = Grant; holder = holder; numbers = []; is = refl; holds = p.0; named = p.1; ranged = none }
made (claim holder o arc) h =
    let p = and_parts (is_holder holder) _ h in
    let q = and_parts (is_identifier o) _ p.1 in
    record { verb = Claim; holder = holder; numbers = arc ∷ []; is = refl; holds = p.0; named = q.0; ranged = one_more q.1 none }
made (offer holder o quota taker) h =
    let p = and_parts (is_holder holder) _ h in
    let q = and_parts (is_identifier o) _ p.1 in
    let r = and_parts _ _ q.1 in
    record { verb = Offer; holder = holder; numbers = quota ∷ taker ∷ []; is = refl; holds = p.0; named = q.0; ranged = one_more r.0 (one_more r.1 none) }
made (accept taker t) h =
    let p = and_parts (is_holder taker) _ h in
    record { verb = Accept; holder = taker; numbers = []; is = refl; holds = p.0; named = p.1; ranged = none }
made (decline taker t) h =
    let p = and_parts (is_holder taker) _ h in
    record { verb = Decline; holder = taker; numbers = []; is = refl; holds = p.0; named = p.1; ranged = none }
made (retire holder t) h =
    let p = and_parts (is_holder holder) _ h in
    record { verb = Retire; holder = holder; numbers = []; is = refl; holds = p.0; named = p.1; ranged = none }
made (roll holder o from) h =
    let p = and_parts (is_holder holder) _ h in
    let q = and_parts (is_identifier o) _ p.1 in
    record { verb = Roll; holder = holder; numbers = from ∷ []; is = refl; holds = p.0; named = q.0; ranged = one_more q.1 none }
made (collect taker t) h = absurd (both_ways false refl h)
made (accept_grant t) h = absurd (both_ways false refl h)
made (decline_grant t) h = absurd (both_ways false refl h)

-- what stands before the identifier in the call's line
pub front_made : (verb : Verb) (holder : ℕ) (arcs numbers : List ℕ) → InRanges (drop 2 (form_of verb)) numbers
    → front_of (call_by verb (holder ∷ numbers) arcs) ≡ front_with verb holder
front_made verb holder arcs numbers r = ap (λ l. join_with_byte space (take 2 l) ++ space ∷ []) (words_made verb holder arcs [] numbers r)

-- and how long that is
pub front_long : (verb : Verb) (holder : ℕ) → length (verb_text verb) + 1 + length (decimal holder) + 1 ≡ length (front_with verb holder)
front_long verb holder =
    omega (arith, length-append (verb_text verb) (space ∷ decimal holder), length-append (join_with_byte space (verb_text verb ∷ decimal holder ∷ [])) (space ∷ []))
