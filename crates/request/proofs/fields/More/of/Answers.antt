use Rattle.std.proofs.Common.{◌≡◌, ◌∷◌, [], ⊎_elim, drop, sym, ap, ◌∙◌}
use Rattle.std.specs.Option.{option_map}
use Rattle.request.specs.Fields.{in_form}
use Rattle.request.specs.Parts.{parts_left, part_of, more_of}
use Rattle.request.specs.Verbs.{a_holder, an_arc, a_quota, form_of}
use Rattle.request.specs.declared.verb.Verb.{Verb}
use Rattle.request.specs.declared.verb.Verb.TheVariants.{Grant, Claim, Accept, Decline, Retire, Roll}
use Rattle.request.proofs.Forms.{field, last, both_mapped, same_mapped}
use Rattle.request.proofs.fields.More.of.Goals as goal
use Rattle.request.proofs.fields.More.of.Goals.{in-Grant, in-Claim+in_ok-filled-in-Claim, in-Offer+in_ok-quota-in-Offer+in_ok-taker-in-Offer}

pub returns : goal.returns
returns c =
    let same : (v : Verb) → c.args.verb ≡ v → in_form (drop 2 (form_of v)) (parts_left c.args.parts) ≡ in_form (drop 2 (form_of c.args.verb)) (parts_left c.args.parts) =
    λ v e. ap (λ w. in_form (drop 2 (form_of w)) (parts_left c.args.parts)) (sym e) in
    let ended = last (parts_left c.match-verb.parts) _ _ c.match-verb.more in
    elim c.match-verb.branch [
      | in-Grant w ↦
          ended (λ fields. fields) c.then_some.ensures c.is_done.ensures (ap more_of w.more-is)
          ∙ same_mapped _ ∙ ap (λ parts. in_form [] (parts_left parts)) w.parts-is
          ∙ ⊎_elim (same Grant) (λ o. ⊎_elim (same Accept) (λ p. ⊎_elim (same Decline) (same Retire) p) o) w.in-Grant.is
      | in-Claim+in_ok-filled-in-Claim w ↦
          let arc = field an_arc (part_of w.in_ok-filled-in-Claim.field-0) in
          ended (λ fields. arc ∷ fields) c.then_some.ensures c.is_done.ensures (ap more_of w.more-is)
          ∙ ap (λ parts. option_map (λ fields. arc ∷ fields) (in_form [] (parts_left parts))) w.parts-is
          ∙ sym (w.in_ok-filled-in-Claim.ensures an_arc [])
          ∙ ⊎_elim (same Claim) (same Roll) w.in-Claim.is
      | in-Offer+in_ok-quota-in-Offer+in_ok-taker-in-Offer w ↦
          let quota = field a_quota (part_of w.in_ok-quota-in-Offer.quota) in
          let taker = field a_holder (part_of w.in_ok-taker-in-Offer.taker) in
          ended (λ fields. quota ∷ taker ∷ fields) c.then_some.ensures c.is_done.ensures (ap more_of w.more-is)
          ∙ both_mapped (λ fields. quota ∷ fields) (λ fields. taker ∷ fields) _
          ∙ ap (λ parts. option_map (λ fields. quota ∷ fields) (option_map (λ fields. taker ∷ fields) (in_form [] (parts_left parts)))) w.parts-is
          ∙ ap (option_map (λ fields. quota ∷ fields)) (sym (w.in_ok-taker-in-Offer.ensures a_holder []))
          ∙ sym (w.in_ok-quota-in-Offer.ensures a_quota (a_holder ∷ []))
          ∙ ap (λ v. in_form (drop 2 (form_of v)) (parts_left c.args.parts)) (sym w.in-Offer.is)
    ]
