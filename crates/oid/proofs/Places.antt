-- Identifiers with the same arcs are the same value, and what whoever makes one owes.
use Rattle.std.proofs.Common.{◌≡◌, ℕ, ◌-◌, ◌≤◌, true, List, ◌++◌, length, take, drop, replicate, sym, ap, ◌∙◌, arith}
use denote.Struct.Record.{values_one}
use Rattle.std.proofs.lemmas.List.{length-append, length-replicate, length-take-le, take_at, drop_at, take-append-drop}
use Rattle.oid.specs.Meaning.{arcs_of}
use Rattle.oid.specs.Tree.{most_arcs, is_identifier}
use Rattle.oid.specs.declared.identifier.Identifier.{Identifier}
use Rattle.oid.specs.contracts.identifier.Identifier.{struct, the_propositions}
use Rattle.oid.proofs.Tree.{Keeps, kept}

-- the places hold the list, and 0 after it
abbrev pub Laid : List ℕ → ℕ → List ℕ → Type 0
Laid places len list = (len ≡ length list) × (places ≡ list ++ replicate (most_arcs - len) 0)

pub take_laid : (places list : List ℕ) (len : ℕ) → Laid places len list → take len places ≡ list
take_laid places list len h = rw h.1 (take_at list _ len (sym h.0))

pub drop_laid : (places list : List ℕ) (len : ℕ) → Laid places len list → drop len places ≡ replicate (most_arcs - len) 0
drop_laid places list len h = ap (drop len) h.1 ∙ drop_at list _ len (sym h.0)

-- the four facts that the type asks
pub record Owed (held : List ℕ) (len : ℕ) : Type 0 where
  pub places : length held ≡ most_arcs
  pub within : len ≤ most_arcs
  pub rule : is_identifier (take len held) ≡ true
  pub rest : drop len held ≡ replicate (most_arcs - len) 0

pub owed : (places list : List ℕ) (len : ℕ) → Laid places len list → Keeps list → Owed places len
owed places list len h k =
    let short = k.short in
    let e = h.0 in
    let whole = ap length h.1 ∙ length-append list (replicate (most_arcs - len) 0) in
    let rest = length-replicate {A = ℕ} (most_arcs - len) 0 in
    record {
      places = omega arith;
      within = omega arith;
      rule = ap is_identifier (take_laid places list len h) ∙ kept list k;
      rest = drop_laid places list len h;
    }

module _ (i : Identifier) where
  -- the length is that of the list
  pub len_is : i.len ≡ length (arcs_of i)
  len_is = sym (length-take-le i.len i.arcs (omega (arith, i.within, i.places)))

  pub laid : Laid i.arcs i.len (arcs_of i)
  laid = (len_is, sym (take-append-drop i.len i.arcs) ∙ ap (λ l. arcs_of i ++ l) i.rest)

pub same_from_arcs : (i j : Identifier) → arcs_of i ≡ arcs_of j → i ≡ j
same_from_arcs i j e =
    let len : i.len ≡ j.len = len_is i ∙ ap length e ∙ sym (len_is j) in
    let p = (laid i).1 in
    let q = (laid j).1 in
    values_one struct the_propositions i j (cc)
