-- The laws of the encoding.
use Rattle.std.proofs.Common.{◌≡◌, ℕ, ◌≤◌, true, List, [], ◌++◌, length, drop, Ok, Err, Result, sym, refl, ap, ◌∙◌, subst, arith}
use Rattle.std.specs.Result.{result_unwrap_or}
use Rattle.std.proofs.lemmas.List.{append-nil, drop_all, drop_at}
use Rattle.oid.specs.Refusals.{filled, told}
use Rattle.oid.specs.Tree.{is_identifier}
use Rattle.oid.specs.declared.refusal.Fault.{Fault}
use Rattle.oid.proofs.Numbers.{asked}
use Rattle.der.specs.Header.{taken_in, bad_header}
use Rattle.der.specs.Laws.{Encodes, Exactly, Splits, Bytes, ReadsWhole, OneEncoding, FewestBytes}
use Rattle.der.specs.Reading.{read_der, taken}
use Rattle.der.specs.Writing.{der_bytes}
use Rattle.der.proofs.Accepted.{good_header, bytes_read}
use Rattle.der.proofs.Accepting.{taken_is, read_bytes}
use Rattle.der.proofs.Digits.{value_base128, fewest}

-- an encoding and a rest are read as the identifier, and the encoding is taken
encoded_read : (bytes arcs rest : List ℕ) → Encodes bytes arcs rest → read_der bytes ≡ Ok arcs
encoded_read bytes arcs rest h = ap read_der h.1 ∙ read_bytes arcs h.0 rest

encoded_taken : (bytes arcs rest : List ℕ) → Encodes bytes arcs rest → taken bytes ≡ Ok (length (der_bytes arcs))
encoded_taken bytes arcs rest h =
    ap (told (taken_in bytes)) (encoded_read bytes arcs rest h) ∙ ap Ok (ap taken_in h.1 ∙ taken_is arcs h.0 rest)

-- no more bytes are taken than there are
pub taken_within : (bytes : List ℕ) → result_unwrap_or (taken bytes) 0 ≤ length bytes
unfolding read_der
taken_within bytes = go (read_der bytes) refl
  where
    go : (reading : Result (List ℕ) Fault) → read_der bytes ≡ reading → result_unwrap_or (told (taken_in bytes) reading) 0 ≤ length bytes
    go (Ok arcs) same = (good_header bytes (asked (bad_header bytes) _ arcs same).0).there
    go (Err fault) same = omega arith

-- what a reader owes that answers as the reading says
pub exactly : (bytes before : List ℕ) (answer : Result ℕ Fault) (arcs : List ℕ) → Bytes bytes
    → answer ≡ taken bytes → arcs ≡ filled (read_der bytes) before → Exactly bytes answer arcs
exactly bytes before answer arcs each value after = (λ count e. to count (read_der bytes) refl (sym value ∙ e), from)
  where
    to : (count : ℕ) (reading : Result (List ℕ) Fault) → read_der bytes ≡ reading → told (taken_in bytes) reading ≡ Ok count
        → Encodes bytes arcs (drop count bytes)
    to count (Ok found) same e =
        let here : taken_in bytes ≡ count = cc in
        let is : found ≡ arcs = sym (after ∙ ap (λ r. filled r before) same) in
        subst (λ n. Encodes bytes arcs (drop n bytes)) here (subst (λ l. Encodes bytes l (drop (taken_in bytes) bytes)) is (bytes_read bytes found each same))
    to count (Err fault) same e = let z : ◌≡◌ {A = ℕ} 0 1 = cc in absurd (omega arith)

    from : (others rest : List ℕ) → Encodes bytes others rest → (answer ≡ Ok (length (der_bytes others))) × (arcs ≡ others)
    from others rest h = (value ∙ encoded_taken bytes others rest h, after ∙ ap (λ r. filled r before) (encoded_read bytes others rest h))

-- what a reader that fills the caller's identifier owes of a reading
pub record Tells (bytes before : List ℕ) (answer : Result ℕ Fault) (arcs : List ℕ) : Type 0 where
  pub value : answer ≡ taken bytes
  pub after : arcs ≡ filled (read_der bytes) before
  pub exact : Exactly bytes answer arcs

pub reading_told : (bytes before : List ℕ) (answer : Result ℕ Fault) (arcs : List ℕ) (reading : Result (List ℕ) Fault) → Bytes bytes
    → read_der bytes ≡ reading → answer ≡ told (taken_in bytes) reading → arcs ≡ filled reading before → Tells bytes before answer arcs
reading_told bytes before answer arcs reading each is answered filled_with =
    let value = answered ∙ sym (ap (told (taken_in bytes)) is) in
    let after = filled_with ∙ sym (ap (λ r. filled r before) is) in
    record { value = value; after = after; exact = exactly bytes before answer arcs each value after }

-- what a count and a rest owe that are those of the reading
pub splits : (bytes : List ℕ) (count : ℕ) (rest : List ℕ) → Bytes bytes → count ≡ result_unwrap_or (taken bytes) 0
    → rest ≡ drop count bytes → Splits bytes count rest
splits bytes count rest each value after = (found, none (read_der bytes) refl)
  where
    found : (arcs others : List ℕ) → Encodes bytes arcs others → (count ≡ length (der_bytes arcs)) × (rest ≡ others)
    found arcs others h =
        let all = value ∙ ap (λ r. result_unwrap_or r 0) (encoded_taken bytes arcs others h) in
        (all, after ∙ (λ k. drop (all k) (h.1 k)) ∙ drop_at (der_bytes arcs) others _ refl)

    none : (reading : Result (List ℕ) Fault) → read_der bytes ≡ reading
        → ((arcs others : List ℕ) → Encodes bytes arcs others → ⊥) → (count ≡ 0) × (rest ≡ bytes)
    none (Ok arcs) same never = absurd (never arcs _ (bytes_read bytes arcs each same))
    none (Err fault) same never =
        let zero = value ∙ ap (λ r. result_unwrap_or (told (taken_in bytes) r) 0) same in
        (zero, after ∙ ap (λ n. drop n bytes) zero)

-- the encoding alone is read with nothing left over
pub reads_whole : (arcs : List ℕ) → is_identifier arcs ≡ true → ReadsWhole (der_bytes arcs) arcs
reads_whole arcs h =
    let alone : Encodes (der_bytes arcs) arcs [] = (h, sym (append-nil (der_bytes arcs))) in
    (encoded_read (der_bytes arcs) arcs [] alone, encoded_taken (der_bytes arcs) arcs [] alone)

-- where nothing is left over, as many bytes are taken as there are
pub whole_taken : (bytes arcs : List ℕ) → ReadsWhole bytes arcs → taken_in bytes ≡ length bytes
whole_taken bytes arcs h = cc (ap (told (taken_in bytes)) (sym h.0) ∙ h.1)

-- what is read as arcs with nothing left over is their encoding
pub whole_bytes : (bytes arcs : List ℕ) → Bytes bytes → ReadsWhole bytes arcs → bytes ≡ der_bytes arcs
whole_bytes bytes arcs each h =
    let told = whole_taken bytes arcs h in
    (bytes_read bytes arcs each h.0).1 ∙ ap (λ l. der_bytes arcs ++ l) (drop_all (taken_in bytes) bytes (omega arith))
    ∙ append-nil (der_bytes arcs)

pub one_encoding : OneEncoding
one_encoding one other arcs b c p q = whole_bytes one arcs b p ∙ sym (whole_bytes other arcs c q)

pub fewest_bytes : FewestBytes
fewest_bytes n = (value_base128 n, fewest n)
