-- Laws of the encoding, over the reading and the bytes that the contracts cite.
use Rattle.std.specs.Prelude.{◌≡◌, ℕ, ◌<◌, ◌≤◌, true, List, ◌++◌, length, drop, Ok, Result, slice_index}
use Rattle.std.specs.List.{between}
use Rattle.oid.specs.Tree.{is_identifier}
use Rattle.oid.specs.declared.refusal.Fault.{Fault}
use Rattle.der.specs.Base128.{value_of, base128}
use Rattle.der.specs.Reading.{read_der, taken}
use Rattle.der.specs.Writing.{der_bytes}

-- The bytes are the encoding of these arcs, which are an identifier, followed by the rest.
abbrev pub Encodes : List ℕ → List ℕ → List ℕ → Type 0
Encodes bytes arcs rest = (is_identifier arcs ≡ true) × (bytes ≡ der_bytes arcs ++ rest)

-- A reader that gives `answer`, and leaves the caller's identifier with `arcs`, accepts bytes exactly when they are
-- the encoding of an identifier followed by a rest: then the identifier has its arcs, and what was taken is the
-- encoding.
abbrev pub Exactly : List ℕ → Result ℕ Fault → List ℕ → Type 0
Exactly bytes answer arcs =
    ((count : ℕ) → answer ≡ Ok count → Encodes bytes arcs (drop count bytes))
    × ((others rest : List ℕ) → Encodes bytes others rest → (answer ≡ Ok (length (der_bytes others))) × (arcs ≡ others))

-- What a count and a rest say of bytes: of an encoding followed by some bytes, the encoding's length and these
-- bytes; of any others, 0 and all of them.
abbrev pub Splits : List ℕ → ℕ → List ℕ → Type 0
Splits bytes count rest =
    ((arcs others : List ℕ) → Encodes bytes arcs others → (count ≡ length (der_bytes arcs)) × (rest ≡ others))
    × (((arcs others : List ℕ) → Encodes bytes arcs others → ⊥) → (count ≡ 0) × (rest ≡ bytes))

-- The bytes are read as these arcs, with nothing left over.
abbrev pub ReadsWhole : List ℕ → List ℕ → Type 0
ReadsWhole bytes arcs = (read_der bytes ≡ Ok arcs) × (taken bytes ≡ Ok (length bytes))

-- What stands in the page from a place to an end is read as these arcs, with nothing left over.
abbrev pub ReadsBack : List ℕ → ℕ → ℕ → List ℕ → Type 0
ReadsBack page place end arcs = ReadsWhole (between place end page) arcs

-- Every number of the list is a byte.
abbrev pub Bytes : List ℕ → Type 0
Bytes list = (i : ℕ) → slice_index list i < 256

-- Two strings of bytes that read to one identifier with nothing left over are equal.
abbrev pub OneEncoding : Type 0
OneEncoding =
    (one other arcs : List ℕ) → Bytes one → Bytes other → ReadsWhole one arcs → ReadsWhole other arcs → one ≡ other

-- The bytes of a number stand for it, and no other bytes that do, one at least, are fewer.
abbrev pub FewestBytes : Type 0
FewestBytes =
    (number : ℕ)
    → (value_of (base128 number) ≡ number)
    × ((bytes : List ℕ) → 0 < length bytes → value_of bytes ≡ number → length (base128 number) ≤ length bytes)
