-- Examples of both notations, over the definitions that the contracts of their readers and writers cite.
use Rattle.std.specs.Prelude.{◌≡◌, ℕ, List, [], ◌∷◌, Ok, Err, codes}
use Rattle.oid.specs.Refusals.{fault_at}
use Rattle.oid.specs.declared.refusal.Refusal.{Refusal}
use Rattle.oid.specs.declared.refusal.Refusal.TheVariants.{NotDotted, LeadingZero, ArcTooLarge, FirstArcs, Header, Unfinished, Padded}
use Rattle.dotted.specs.Reading.{read_dotted}
use Rattle.dotted.specs.Writing.{dotted_text}
use Rattle.der.specs.Laws.{ReadsWhole}
use Rattle.der.specs.Reading.{read_der}
use Rattle.der.specs.Writing.{der_bytes}

-- The text and the bytes are those of one identifier: they are what is written of its arcs, and read as them, the
-- bytes with nothing left over.
abbrev pub Is : List ℕ → List ℕ → List ℕ → Type 0
Is text arcs bytes = (dotted_text arcs ≡ text) × (read_dotted text ≡ Ok arcs) × (der_bytes arcs ≡ bytes) × ReadsWhole bytes arcs

-- a text, or bytes, that a reader refuses
abbrev pub TextGets : List ℕ → Refusal → ℕ → Type 0
TextGets text refusal offset = read_dotted text ≡ Err (fault_at refusal offset)

abbrev pub BytesGet : List ℕ → Refusal → ℕ → Type 0
BytesGet bytes refusal offset = read_der bytes ≡ Err (fault_at refusal offset)

abbrev pub WorkedExamples : Type 0
WorkedExamples =
    Is (codes "2.999") (2 ∷ (999 ∷ [])) (0x06 ∷ (0x02 ∷ (0x88 ∷ (0x37 ∷ []))))
    × Is (codes "1.39") (1 ∷ (39 ∷ [])) (0x06 ∷ (0x01 ∷ (0x4F ∷ [])))
    × Is (codes "2.0") (2 ∷ (0 ∷ [])) (0x06 ∷ (0x01 ∷ (0x50 ∷ [])))
    × Is (codes "2.48") (2 ∷ (48 ∷ [])) (0x06 ∷ (0x02 ∷ (0x81 ∷ (0x00 ∷ []))))
    × Is (codes "2.4294967295") (2 ∷ (4294967295 ∷ [])) (0x06 ∷ (0x05 ∷ (0x90 ∷ (0x80 ∷ (0x80 ∷ (0x80 ∷ (0x4F ∷ [])))))))
    × BytesGet (0x06 ∷ (0x05 ∷ (0x90 ∷ (0x80 ∷ (0x80 ∷ (0x80 ∷ (0x50 ∷ []))))))) ArcTooLarge 2
    × BytesGet (0x06 ∷ (0x02 ∷ (0x80 ∷ (0x01 ∷ [])))) Padded 2
    × BytesGet (0x06 ∷ (0x01 ∷ (0x80 ∷ []))) Unfinished 2
    × BytesGet (0x06 ∷ (0x81 ∷ (0x01 ∷ (0x00 ∷ [])))) Header 1
    × TextGets (codes "1.40") FirstArcs 2
    × TextGets (codes "1..2") NotDotted 1
    × TextGets (codes "1.02") LeadingZero 2
