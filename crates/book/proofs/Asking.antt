-- Questions: where two chains of them come to the same.
use Rattle.std.proofs.Common.{◌≡◌, Bool, true, false, Some, None, Option, refl, ap, ◌∙◌}
use Rattle.book.specs.Rulings.{Ruling, ask, there_is}
use Rattle.book.specs.declared.refusal.Refusal.{Refusal}

-- where what follows a yes is the same, so is the whole
ask-onward : (refusal : Refusal) (holds : Bool) (others more : Ruling) → (holds ≡ true → others ≡ more)
    → ask refusal holds others ≡ ask refusal holds more
unfolding ask
ask-onward refusal true others more follow = follow refl
ask-onward refusal false others more follow = refl

there_is-onward : {A : Type 0} (refusal : Refusal) (thing : Option A) (others more : A → Ruling)
    → ((a : A) → thing ≡ Some a → others a ≡ more a) → there_is refusal thing others ≡ there_is refusal thing more
unfolding there_is
there_is-onward refusal None others more follow = refl
there_is-onward refusal (Some a) others more follow = follow a refl

pub ask-cong : (refusal : Refusal) (one other : Bool) {others more : Ruling} → one ≡ other → (one ≡ true → others ≡ more)
    → ask refusal one others ≡ ask refusal other more
ask-cong refusal one other {others} {more} same follow =
    ask-onward refusal one others more follow ∙ ap (λ holds. ask refusal holds more) same

pub there_is-cong : {A : Type 0} (refusal : Refusal) (one other : Option A) {others more : A → Ruling} → one ≡ other
    → ((a : A) → one ≡ Some a → others a ≡ more a) → there_is refusal one others ≡ there_is refusal other more
there_is-cong refusal one other {others} {more} same follow =
    there_is-onward refusal one others more follow ∙ ap (λ thing. there_is refusal thing more) same
