-- Numbers up to a most that is an arc.
use Rattle.std.proofs.Common.{◌≡◌, ℕ, ◌≤◌, cond, leb, Some, None, Option, option_and_then, refl, ⊎_elim, arith}
use Rattle.std.proofs.lemmas.Bool.{cases_lt, cond-false, lt-leb}
use Rattle.oid.specs.Arcs.{arc_limit, arc_of}
use Rattle.oid.proofs.Arcs.{arc_of_some}

-- where no arc is written, there is no number up to the most
pub none_to : (most : ℕ) (written : Option ℕ) → most ≤ arc_limit → option_and_then arc_of written ≡ None
    → option_and_then (λ number. cond (leb number most) (Some number) None) written ≡ None
none_to most None within h = refl
none_to most (Some number) within h =
    ⊎_elim
    (λ above. cond-false (leb number most) _ _ (lt-leb number most above))
    (λ below. let z : ◌≡◌ {A = ℕ} 0 1 = cc (h, arc_of_some number (omega (arith, below, within))) in absurd (omega (arith, z)))
    (cases_lt most number)
