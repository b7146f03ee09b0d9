-- What `is_some` tells of an option.
use Rattle.std.proofs.Common.{◌≡◌, true, false, is_some, Some, None, Option, refl}
use Rattle.std.proofs.lemmas.Bool.{both_ways}

pub some_found : {A : Type 0} (o : Option A) → is_some o ≡ true → (x : A) × (o ≡ Some x)
some_found None e = absurd (both_ways false refl e)
some_found (Some x) e = (x, refl)

pub none_found : {A : Type 0} (o : Option A) → is_some o ≡ false → o ≡ None
none_found None e = refl
none_found (Some x) e = absurd (both_ways true e refl)
