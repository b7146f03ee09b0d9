-- The verbs of request lines, and the fields that follow each.
use Rattle.std.specs.Prelude.{ℕ, List, [], ◌∷◌, find, Option, ◌==◌, codes}
use Rattle.std.specs.Cmp.Lexicographic.{pointwise}
use Rattle.request.specs.declared.verb.Verb.{Verb}
use Rattle.request.specs.declared.verb.Verb.TheVariants.{Grant, Claim, Offer, Accept, Decline, Retire, Roll}

abbrev pub verbs : List Verb
verbs = Grant ∷ Claim ∷ Offer ∷ Accept ∷ Decline ∷ Retire ∷ Roll ∷ []

-- how a verb is written
abbrev pub verb_text : Verb → List ℕ
verb_text Grant = codes "grant"
verb_text Claim = codes "claim"
verb_text Offer = codes "offer"
verb_text Accept = codes "accept"
verb_text Decline = codes "decline"
verb_text Retire = codes "retire"
verb_text Roll = codes "roll"

-- the verb that a word is, if it is one
abbrev pub verb_of : List ℕ → Option Verb
verb_of word = find (λ verb. pointwise ◌==◌ (verb_text verb) word) verbs

-- what a field stands for
pub data Sort : Type 0 where
  a_holder : Sort
  an_identifier : Sort
  an_arc : Sort
  a_quota : Sort

-- the fields that follow each verb, in their order
abbrev pub form_of : Verb → List Sort
form_of Grant = a_holder ∷ an_identifier ∷ []
form_of Claim = a_holder ∷ an_identifier ∷ an_arc ∷ []
form_of Offer = a_holder ∷ an_identifier ∷ a_quota ∷ a_holder ∷ []
form_of Accept = a_holder ∷ an_identifier ∷ []
form_of Decline = a_holder ∷ an_identifier ∷ []
form_of Retire = a_holder ∷ an_identifier ∷ []
form_of Roll = a_holder ∷ an_identifier ∷ an_arc ∷ []
