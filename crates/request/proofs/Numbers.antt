-- Numbers of fields.
use Rattle.std.proofs.Common.{◌≡◌, ℕ, ◌<◌, Bool, false, cond, leb, Some, None, Option, refl, ap, ◌∙◌, sym, ⊎_elim, arith}
use Rattle.std.specs.Option.{option_and_then}
use Rattle.std.proofs.lemmas.Bool.{cases_lt, cond-false, lt-leb, and_right}
use Rattle.oid.specs.Arcs.{arc_limit, arc_of}
use Rattle.oid.proofs.Arcs.{arc_of_some, limit_width}
use Rattle.dotted.specs.Pieces.{numeral}
use Rattle.book.specs.Ranges.{most_quota, last_holder}
use Rattle.request.specs.Verbs.{Sort, a_holder, an_identifier, an_arc, a_quota}
use Rattle.request.specs.Fields.{Part, Field, in_range, number_in}

-- what is no arc is in no range
pub large : (sort : Sort) (number : ℕ) → arc_limit < number → in_range sort number ≡ false
large a_holder number h =
    and_right (leb 1 number) _ (lt-leb number last_holder (omega (arith, h, limit_width 65535 (omega arith))))
large an_identifier number h = refl
large an_arc number h = lt-leb number arc_limit h
large a_quota number h = lt-leb number most_quota (omega (arith, h, limit_width 511 (omega arith)))

-- where no arc is written, no number is written that passes a test which what is no arc fails
pub none_passes : (test : ℕ → Bool) (written : Option ℕ) → ((number : ℕ) → arc_limit < number → test number ≡ false)
    → option_and_then arc_of written ≡ None → option_and_then (λ number. cond (test number) (Some number) None) written ≡ None
none_passes test None fails h = refl
none_passes test (Some number) fails h =
    ⊎_elim
    (λ above. cond-false (test number) _ _ (fails number above))
    (λ within. let z : ◌≡◌ {A = ℕ} 0 1 = cc (h, arc_of_some number within) in absurd (omega (arith, z)))
    (cases_lt arc_limit number)

-- so there is no number in range
pub no_number : (part : Part) (field : Field) → part ≡ field.part → option_and_then arc_of (numeral part.text) ≡ None → number_in field ≡ None
no_number part field same none =
    none_passes (in_range field.sort) (numeral field.part.text) (large field.sort) (ap (λ p. option_and_then arc_of (numeral p.text)) (sym same) ∙ none)
