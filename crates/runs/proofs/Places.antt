-- Where a Grant is kept.
use Rattle.std.proofs.Common.{◌≡◌, ℕ, ◌+◌, cond, not, List, [], ◌∷◌, length, position, nat_lt, Some, None, refl, ap, ◌∙◌}
use Rattle.std.specs.List.{position_or_len}
use Rattle.std.proofs.lemmas.List.{length-map}
use Rattle.runs.specs.Hands.{is_for}
use Rattle.runs.specs.Out.{held_of, held_in}
use Rattle.runs.specs.declared.held.Held as out

first_held : (t : List ℕ) (held : List out.Held) → position_or_len (is_for t) (held_in held) ≡ position_or_len (λ one. is_for t (held_of one)) held
first_held t [] = refl
first_held t (one ∷ held) = ap (λ n. cond (not (is_for t (held_of one))) (1 + n) 0) (first_held t held)

pub position_held : (t : List ℕ) (held : List out.Held) → position (is_for t) (held_in held) ≡ position (λ one. is_for t (held_of one)) held
position_held t held =
    ap (λ n. cond (nat_lt n (length (held_in held))) (Some n) None) (first_held t held)
    ∙ ap (λ n. cond (nat_lt (position_or_len (λ one. is_for t (held_of one)) held) n) (Some (position_or_len (λ one. is_for t (held_of one)) held)) None)
    (length-map held held_of)
