-- What the first question makes of a reading.
use Rattle.std.proofs.Common.{◌≡◌, ℕ, List, drop, Some, None, Ok, Err, Option, sym, refl, ap, ◌∙◌}
use Rattle.std.specs.Option.{option_map}
use Rattle.oid.specs.Numbers.{read_numbers}
use Rattle.oid.specs.Refusals.{ask, and_then, fault_at}
use Rattle.oid.specs.declared.refusal.Fault.{Fault}
use Rattle.oid.specs.declared.refusal.Refusal.TheVariants.{NotDotted}
use Rattle.dotted.specs.Form.{faulty}
use Rattle.dotted.specs.Pieces.{numbers_from}
use Rattle.dotted.specs.Prefix.{prefix_length}
use Rattle.dotted.specs.Reading.{bad_form, read_from, read_dotted}

-- the questions, one before the other
pub questions : (offset : ℕ) (text : List ℕ)
    → read_from offset text ≡ ask (bad_form offset text) (read_numbers (numbers_from offset text))
questions offset text = go (bad_form offset text)
  where
    go : (fault : Option Fault)
        → and_then (ask fault (Ok (numbers_from offset text))) read_numbers ≡ ask fault (read_numbers (numbers_from offset text))
    go None = refl
    go (Some fault) = refl

module _ (text : List ℕ) (start : ℕ) (begins : start ≡ prefix_length text) where
  from_start : read_dotted text ≡ ask (bad_form start (drop start text)) (read_numbers (numbers_from start (drop start text)))
  unfolding read_dotted
  from_start = ap (λ n. read_from n (drop n text)) (sym begins) ∙ questions start (drop start text)

  pub read_malformed : (offset : ℕ) → Some offset ≡ faulty start (drop start text)
      → read_dotted text ≡ Err (fault_at NotDotted offset)
  read_malformed offset e = from_start
      ∙ ap (λ o. ask (option_map (fault_at NotDotted) o) (read_numbers (numbers_from start (drop start text)))) (sym e)

  pub read_formed : None ≡ faulty start (drop start text) → read_dotted text ≡ read_numbers (numbers_from start (drop start text))
  read_formed e = from_start
      ∙ ap (λ o. ask (option_map (fault_at NotDotted) o) (read_numbers (numbers_from start (drop start text)))) (sym e)
