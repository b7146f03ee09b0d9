-- Lists of which only the first arcs are kept: one more than a rule may list.
use Rattle.std.proofs.Common.{◌≡◌, ℕ, ◌<◌, ◌≤◌, Bool, true, false, cond, not, ◌&&◌, ◌==◌, leb, eqb, List, [], ◌∷◌, ◌++◌, length, take, Some, None, Option, Bor, option_map, option_and_then, refl, sym, ap, ◌∙◌, ⊎_elim, arith}
use Rattle.std.specs.Bool.{then_some}
use Rattle.std.specs.List.{slice_split}
use Rattle.std.proofs.lemmas.Bool.{cases_lt, cond-false, lt-leb, ne_eqb, and_right}
use Rattle.std.proofs.lemmas.Grind.{common_steps}
use Rattle.std.proofs.lemmas.List.{append-nil, append_assoc, length-take-le, take-append-le, take_all}
use Rattle.std.proofs.lemmas.Option.{none-some, same_Some}
use Rattle.arc_rules.specs.Listed.{ascending, listed_most, listed_refusal}
use Rattle.arc_rules.specs.Refusals.{unless_refused}
use Rattle.arc_rules.specs.Sets.{among, no_arc}
use Rattle.arc_rules.specs.declared.refusal.RuleRefusal.TheVariants.{UnfitList}
use Rattle.options.specs.Values.{kept_most, comma, arc_in, all_arcs, arcs_in, listing}
use Rattle.options.proofs.Cutting.{parts_behind}

-- what is kept of what was kept and one arc more
abbrev pub one_more : List ℕ → ℕ → List ℕ
one_more kept arc = take kept_most (kept ++ arc ∷ [])

-- what is kept at the end of a walk over texts; none where one of them is no arc
unfoldable pub kept_after : List ℕ → List (List ℕ) → Option (List ℕ)
kept_after kept [] = Some kept
kept_after kept (text ∷ texts) = option_and_then (λ arc. kept_after (one_more kept arc) texts) (arc_in text)

pub with_room : (kept : List ℕ) (arc : ℕ) → length kept < kept_most → one_more kept arc ≡ kept ++ arc ∷ []
with_room kept arc h = take_all kept_most (kept ++ arc ∷ []) (grind (arith, common_steps))

pub without_room : (kept : List ℕ) (arc : ℕ) → length kept ≡ kept_most → one_more kept arc ≡ kept
without_room kept arc h = take-append-le kept_most kept (arc ∷ []) (omega (arith, h)) ∙ take_all kept_most kept (omega (arith, h))

-- what is kept of what is kept
again : (arcs : List ℕ) (arc : ℕ) → one_more (take kept_most arcs) arc ≡ one_more arcs arc
again arcs arc = ⊎_elim many few (cases_lt kept_most (length arcs))
  where
    few : length arcs ≤ kept_most → one_more (take kept_most arcs) arc ≡ one_more arcs arc
    few h = ap (λ l. one_more l arc) (take_all kept_most arcs h)

    many : kept_most < length arcs → one_more (take kept_most arcs) arc ≡ one_more arcs arc
    many h = without_room (take kept_most arcs) arc (length-take-le kept_most arcs (omega (arith, h)))
        ∙ sym (take-append-le kept_most arcs (arc ∷ []) (omega (arith, h)))

kept_from : (texts : List (List ℕ)) (arcs : List ℕ)
    → kept_after (take kept_most arcs) texts ≡ option_map (λ others. take kept_most (arcs ++ others)) (all_arcs texts)
unfolding kept_after all_arcs
kept_from [] arcs = ap (λ l. Some (take kept_most l)) (sym (append-nil arcs))
kept_from (text ∷ texts) arcs = go (λ arc. kept_from texts (arcs ++ arc ∷ [])) (arc_in text)
  where
    onto : (arc : ℕ) (found : Option (List ℕ))
        → option_map (λ others. take kept_most ((arcs ++ arc ∷ []) ++ others)) found
        ≡ option_map (λ others. take kept_most (arcs ++ others)) (option_map (λ others. arc ∷ others) found)
    onto arc None = refl
    onto arc (Some others) = ap (λ l. Some (take kept_most l)) (append_assoc arcs (arc ∷ []) others)

    go : ((arc : ℕ) → kept_after (one_more arcs arc) texts ≡ option_map (λ others. take kept_most ((arcs ++ arc ∷ []) ++ others)) (all_arcs texts))
        → (found : Option ℕ)
        → option_and_then (λ arc. kept_after (one_more (take kept_most arcs) arc) texts) found
        ≡ option_map (λ others. take kept_most (arcs ++ others)) (option_and_then (λ arc. option_map (λ others. arc ∷ others) (all_arcs texts)) found)
    go more None = refl
    go more (Some arc) = ap (λ l. kept_after l texts) (again arcs arc) ∙ more arc ∙ onto arc (all_arcs texts)

-- the first arcs of those that the texts are
pub kept_all : (texts : List (List ℕ)) → kept_after [] texts ≡ option_map (take kept_most) (all_arcs texts)
kept_all texts = kept_from texts []

-- the byte between the arcs of a list
abbrev pub is_comma : ℕ → Bool
is_comma byte = byte == comma

parts_then : (some : Bool) (text : Bor (List ℕ)) → parts_behind is_comma (then_some some text) ≡ cond some (slice_split is_comma text.now) []
parts_then true text = refl
parts_then false text = refl

kept_bytes : (bytes : List ℕ) → kept_after [] (cond (not (eqb (length bytes) 0)) (slice_split is_comma bytes) []) ≡ option_map (take kept_most) (arcs_in bytes)
unfolding kept_after
kept_bytes [] = refl
kept_bytes (byte ∷ bytes) =
    ap (λ empty. kept_after [] (cond (not empty) (slice_split is_comma (byte ∷ bytes)) [])) (ne_eqb (length (byte ∷ bytes)) 0 (λ e. omega (arith, e)))
    ∙ kept_all (slice_split is_comma (byte ∷ bytes))

-- what is kept at the end of a walk over all parts of a text
pub kept_start : (text : Bor (List ℕ)) (empty : Bool) (kept : List ℕ) (left : Option (Bor (List ℕ)))
    → kept ≡ [] → empty ≡ eqb (length text.now) 0 → left ≡ then_some (not empty) text
    → kept_after kept (parts_behind is_comma left) ≡ option_map (take kept_most) (arcs_in text.now)
kept_start text empty kept left none e is =
    ap (λ l. kept_after l (parts_behind is_comma left)) none
    ∙ ap (λ l. kept_after [] (parts_behind is_comma l)) (is ∙ ap (λ b. then_some (not b) text) e)
    ∙ ap (kept_after []) (parts_then (not (eqb (length text.now) 0)) text) ∙ kept_bytes text.now

-- one part further
pub kept_next : (kept : List ℕ) (left : Option (Bor (List ℕ))) (rest : Bor (List ℕ)) (piece : List ℕ) (behind : Option (Bor (List ℕ)))
    → left ≡ Some rest → slice_split is_comma rest.now ≡ piece ∷ parts_behind is_comma behind
    → (found : Option ℕ) → found ≡ arc_in piece
    → kept_after kept (parts_behind is_comma left) ≡ option_and_then (λ arc. kept_after (one_more kept arc) (parts_behind is_comma behind)) found
unfolding kept_after
kept_next kept left rest piece behind is parts found e =
    ap (λ l. kept_after kept (parts_behind is_comma l)) is ∙ ap (kept_after kept) parts
    ∙ ap (option_and_then (λ arc. kept_after (one_more kept arc) (parts_behind is_comma behind))) (sym e)

pub kept_end : (kept : List ℕ) (left : Option (Bor (List ℕ))) → left ≡ None → kept_after kept (parts_behind is_comma left) ≡ Some kept
unfolding kept_after
kept_end kept left none = ap (λ l. kept_after kept (parts_behind is_comma l)) none

too_many : (arcs : List ℕ) → listed_most < length arcs → listed_refusal arcs ≡ Some UnfitList
too_many arcs h =
    cond-false (ascending arcs && leb (length arcs) listed_most) None (Some UnfitList) (and_right (ascending arcs) _ (lt-leb (length arcs) listed_most h))

listing_many : (arcs : List ℕ) → listed_most < length arcs → listing arcs ≡ (no_arc, Some UnfitList)
listing_many arcs h = ap (λ refusal. (unless_refused refusal (among arcs), refusal)) (too_many arcs h)

-- the rule of the arcs that are kept is that of all
listing_kept : (arcs : List ℕ) → listing (take kept_most arcs) ≡ listing arcs
listing_kept arcs = ⊎_elim (λ many. listing_many (take kept_most arcs) (omega (arith, length-take-le kept_most arcs (omega (arith, many)))) ∙ sym (listing_many arcs (omega (arith, many)))) (λ few. ap listing (take_all kept_most arcs few)) (cases_lt kept_most (length arcs))

-- the same of arcs that were found, or not
pub found_kept : (kept : List ℕ) (found : Option (List ℕ)) → Some kept ≡ option_map (take kept_most) found → Some (listing kept) ≡ option_map listing found
found_kept kept None e = absurd (none-some kept (sym e))
found_kept kept (Some arcs) e = ap Some (ap listing (same_Some kept (take kept_most arcs) e) ∙ listing_kept arcs)
