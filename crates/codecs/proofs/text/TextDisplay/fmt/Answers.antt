use Rattle.std.proofs.Common.{◌≡◌, true, is_ok, Ok, Err, Result, sym, refl, subst}
use Rattle.std.specs.Result.{MatchResult}
use Rattle.std.specs.Str.{IsUtf8}
use Rattle.oid.specs.Meaning.{arcs_of}
use Rattle.codecs.proofs.Texts.{text_utf8}
use Rattle.codecs.proofs.text.TextDisplay.fmt.Goals as goal

-- a result is no error where every error contradicts what is known
no_error : {A E : Type 0} (r : Result A E) (P : A → Type 0) (Q : E → Type 0) → MatchResult r P Q → ((e : E) → Q e → ⊥)
    → is_ok r ≡ true
no_error (Ok x) P Q h none = refl
no_error (Err e) P Q h none = absurd (none e h)

pub unwrap-requires : goal.unwrap-requires
unwrap-requires g c =
    let identifier = c.args.self.now.0.now in
    let utf8 = subst IsUtf8 (sym c.written_on-text.ensures.value) (text_utf8 (arcs_of identifier) identifier.rule) in
    no_error c.from_utf8.result _ _ c.from_utf8.ensures.cases (λ error fault. fault.0 utf8)
