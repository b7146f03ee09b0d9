-- The examples, from the laws of both notations and by computing.
use Rattle.std.proofs.Common.{◌≡◌, ℕ, zero, suc, Bool, true, ◌&&◌, ltb, List, [], ◌∷◌, Ok, codes, sym, refl, arith}
use Rattle.std.proofs.lemmas.Bool.{and_parts, ltb-true}
use Rattle.oid.specs.Arcs.{arc_limit}
use Rattle.oid.specs.Numbers.{first_at, read_numbers}
use Rattle.oid.specs.Tree.{begins_with}
use Rattle.dotted.specs.Form.{faulty_from}
use Rattle.dotted.specs.Pieces.{pieces_from}
use Rattle.dotted.specs.Prefix.{prefix, prefix_length}
use Rattle.dotted.specs.Reading.{read_dotted}
use Rattle.dotted.proofs.Theorems.{written_as}
use Rattle.der.specs.Header.{bad_header}
use Rattle.der.specs.Laws.{Bytes, ReadsWhole}
use Rattle.der.specs.Reading.{read_der, read_subidentifiers}
use Rattle.der.specs.Subidentifiers.{series_from}
use Rattle.der.proofs.Theorems.{whole_bytes}
use Rattle.codecs.specs.Examples.{Is, WorkedExamples}

-- a list of bytes, by a test that is computed
all_bytes : List ℕ → Bool
all_bytes [] = true
all_bytes (byte ∷ bytes) = ltb byte 256 && all_bytes bytes

each : (bytes : List ℕ) → all_bytes bytes ≡ true → Bytes bytes
unfolding all_bytes
each [] h i = omega arith
each (byte ∷ bytes) h zero = ltb-true byte 256 (and_parts (ltb byte 256) (all_bytes bytes) h).0
each (byte ∷ bytes) h (suc i) = each bytes (and_parts (ltb byte 256) (all_bytes bytes) h).1 i

-- what is read as arcs is what is written of them
is : (text arcs bytes : List ℕ) → prefix_length text ≡ 0 → read_dotted text ≡ Ok arcs → all_bytes bytes ≡ true
    → ReadsWhole bytes arcs → Is text arcs bytes
is text arcs bytes plain dotted bytes_all whole =
    (sym (written_as text arcs plain dotted), dotted, sym (whole_bytes bytes arcs (each bytes bytes_all) whole), whole)

pub worked_examples : WorkedExamples
unfolding all_bytes read_dotted prefix_length prefix begins_with faulty_from pieces_from read_numbers first_at arc_limit read_der bad_header read_subidentifiers series_from
worked_examples = (
  is (codes "2.999") (2 ∷ (999 ∷ [])) (0x06 ∷ (0x02 ∷ (0x88 ∷ (0x37 ∷ [])))) refl refl refl (refl, refl),
  is (codes "1.39") (1 ∷ (39 ∷ [])) (0x06 ∷ (0x01 ∷ (0x4F ∷ []))) refl refl refl (refl, refl),
  is (codes "2.0") (2 ∷ (0 ∷ [])) (0x06 ∷ (0x01 ∷ (0x50 ∷ []))) refl refl refl (refl, refl),
  is (codes "2.48") (2 ∷ (48 ∷ [])) (0x06 ∷ (0x02 ∷ (0x81 ∷ (0x00 ∷ [])))) refl refl refl (refl, refl),
  is (codes "2.4294967295") (2 ∷ (4294967295 ∷ [])) (0x06 ∷ (0x05 ∷ (0x90 ∷ (0x80 ∷ (0x80 ∷ (0x80 ∷ (0x4F ∷ []))))))) refl refl refl (refl, refl),
  refl,
  refl,
  refl,
  refl,
  refl,
  refl,
  refl,
)
