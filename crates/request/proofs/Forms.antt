-- Parts that fill the fields of a form, one after the other.
use Rattle.std.proofs.Common.{◌≡◌, Bool, cond, not, List, [], ◌∷◌, map, length, drop, eqb, ltb, true, false, Some, None, Option, refl, sym, ap, ◌∙◌, arith}
use Rattle.std.specs.Bool.{then_some}
use Rattle.std.specs.List.{list_all}
use Rattle.std.specs.Option.{option_map}
use Rattle.std.proofs.lemmas.Option.{none-some, same_Some}
use Rattle.std.proofs.lemmas.Bool.{and_parts, cond-true, ne_eqb}
use Rattle.request.specs.Verbs.{Sort, a_holder, an_identifier, form_of}
use Rattle.request.specs.Fields.{Part, Field, in_form, is_identifier_sort, number_fields}
use Rattle.request.specs.Parts.{FillsNext, more_of, split}
use Rattle.request.specs.declared.fields.More.{More}
use Rattle.request.specs.declared.verb.Verb.{Verb}
use Rattle.request.specs.declared.verb.Verb.TheVariants.{Grant, Claim, Offer, Accept, Decline, Retire, Roll}

abbrev pub field : Sort → Part → Field
field sort part = record { sort = sort; part = part }

-- the form has no more fields
pub ended : (parts : List Part) → in_form [] parts ≡ cond (eqb (length parts) 0) (Some []) None
unfolding in_form
ended [] = refl
ended (part ∷ parts) = sym (ap (λ v. cond v (Some []) None) (ne_eqb (length (part ∷ parts)) 0 (λ e. omega (arith, e))))

pub both_mapped : (f g : List Field → List Field) (found : Option (List Field)) → option_map (λ l. f (g l)) found ≡ option_map f (option_map g found)
both_mapped f g None = refl
both_mapped f g (Some l) = refl

pub same_mapped : (found : Option (List Field)) → option_map (λ l. l) found ≡ found
same_mapped None = refl
same_mapped (Some l) = refl

-- after the last field of a form, the fields are there if no part is left
pub last : (parts : List Part) (ends : Bool) (found : Option More) (more : More) (front : List Field → List Field)
    → found ≡ then_some ends more → ends ≡ eqb (length parts) 0 → more_of more ≡ front []
    → option_map more_of found ≡ option_map front (in_form [] parts)
last parts ends found more front is e same =
    ap (option_map more_of) is ∙ go ends ∙ ap (λ v. option_map front (cond v (Some []) None)) e ∙ ap (option_map front) (sym (ended parts))
  where
    go : (v : Bool) → option_map more_of (then_some v more) ≡ option_map front (cond v (Some []) None)
    go true = ap Some same
    go false = refl

-- the fields in a form stand for what the form says
pub sorts : (form : List Sort) (parts : List Part) (fields : List Field) → in_form form parts ≡ Some fields → map (λ f. f.sort) fields ≡ form
unfolding in_form
sorts [] [] fields is = ap (λ l. map (λ f. f.sort) l) (sym (same_Some _ _ is))
sorts [] (part ∷ parts) fields is = absurd (none-some _ is)
sorts (sort ∷ form) [] fields is = absurd (none-some _ is)
sorts (sort ∷ form) (part ∷ parts) fields is = go (ltb 0 (length part.text)) (in_form form parts) (sorts form parts) is
  where
    go : (v : Bool) (found : Option (List Field)) → ((l : List Field) → found ≡ Some l → map (λ f. f.sort) l ≡ form)
        → cond v (option_map (λ l. field sort part ∷ l) found) None ≡ Some fields → map (λ f. f.sort) fields ≡ sort ∷ form
    go false found others h = absurd (none-some _ h)
    go true None others h = absurd (none-some _ h)
    go true (Some l) others h = ap (λ m. map (λ f. f.sort) m) (sym (same_Some _ _ h)) ∙ ap (λ m. sort ∷ m) (others l refl)

-- fields none of which is an identifier's are all number fields
pub all_numbers : (fields : List Field) → list_all (λ sort. not (is_identifier_sort sort)) (map (λ f. f.sort) fields) ≡ true
    → number_fields fields ≡ fields
all_numbers [] h = refl
all_numbers (f ∷ fields) h =
    let parts = and_parts (not (is_identifier_sort f.sort)) _ h in
    cond-true (not (is_identifier_sort f.sort)) _ _ parts.0 ∙ ap (λ l. f ∷ l) (all_numbers fields parts.1)

-- what is behind the first two fields of a verb has no identifier
pub no_more : (verb : Verb) → list_all (λ sort. not (is_identifier_sort sort)) (drop 2 (form_of verb)) ≡ true
no_more Grant = refl
no_more Claim = refl
no_more Offer = refl
no_more Accept = refl
no_more Decline = refl
no_more Retire = refl
no_more Roll = refl

pub first_two : (verb : Verb) → form_of verb ≡ a_holder ∷ an_identifier ∷ drop 2 (form_of verb)
first_two Grant = refl
first_two Claim = refl
first_two Offer = refl
first_two Accept = refl
first_two Decline = refl
first_two Retire = refl
first_two Roll = refl

-- two parts that fill the first two fields of a verb, and the fields behind them
pub all_filled : (verb : Verb) (before between after : List Part) (caller identifier : Part) (more : List Field)
    → FillsNext before (Some caller) between → FillsNext between (Some identifier) after
    → in_form (drop 2 (form_of verb)) after ≡ Some more
    → option_map split (in_form (form_of verb) before) ≡ Some (field a_holder caller ∷ more, identifier)
all_filled verb before between after caller identifier more first second rest =
    let behind = drop 2 (form_of verb) in
    let numbers = all_numbers more (ap (list_all (λ sort. not (is_identifier_sort sort))) (sorts behind after more rest) ∙ no_more verb) in
    ap (λ form. option_map split (in_form form before)) (first_two verb)
    ∙ ap (option_map split) (first a_holder (an_identifier ∷ behind) ∙ ap (option_map (λ fields. field a_holder caller ∷ fields)) (second an_identifier behind ∙ ap (option_map (λ fields. field an_identifier identifier ∷ fields)) rest))
    ∙ ap (λ l. Some (field a_holder caller ∷ l, identifier)) numbers
