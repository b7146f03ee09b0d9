-- No entry is ever removed, by any calls at any book.
use Rattle.std.proofs.Common.{◌≡◌, ℕ, ◌⊎◌, inl, inr, true, false, List, [], ◌∷◌, Some, refl, sym, ap, ◌∙◌}
use Rattle.std.proofs.lemmas.Option.{same_Some}
use Rattle.book.specs.declared.kind.Kind.{Kind}
use Rattle.book.specs.declared.kind.Kind.TheVariants.{Panel, Retired, Offered, InHand, Open, Declined}
use Rattle.book.specs.Kinds.{next_kind}
use Rattle.book.specs.Book.{Entry, Book, same, found}
use Rattle.book.specs.Calls.{Call}
use Rattle.book.specs.Rulings.{Ruling, refuses, enters, turns, tells, turned, book_after}
use Rattle.book.specs.Questions.{Rules, ruling, after}
use Rattle.book.specs.Beneath.{may_become, Becomes, EntriesStay}
use Rattle.book.proofs.Identifiers.{same_true, apart}
use Rattle.book.proofs.Rows.{chosen, of_kind, found_before, found_turned, found_turned_other}
use Rattle.book.proofs.Changes.{change}
use Rattle.book.proofs.Ruled.{Says, ruling_says}

-- a kind that may become another in two changes may become it
twice_may_become : (one two three : Kind) → may_become one two ≡ true → may_become two three ≡ true → may_become one three ≡ true
twice_may_become Panel Retired three h k = cc
twice_may_become Offered InHand Open h k = refl
twice_may_become Offered InHand Declined h k = refl
twice_may_become InHand Open three h k = cc
twice_may_become one two three h k = cc

-- an entry stands for itself
unchanged : (entry : Entry) → Becomes entry entry
unchanged entry = record { identifier = refl; holder = refl; quota = refl; kind = inl refl }

-- what stands for what stands for an entry stands for that entry
becomes_twice : (one two three : Entry) → Becomes one two → Becomes two three → Becomes one three
becomes_twice one two three here there = record {
  identifier = there.identifier ∙ here.identifier;
  holder = there.holder ∙ here.holder;
  quota = there.quota ∙ here.quota;
  kind = go here.kind there.kind;
}
  where
    go : (two.kind ≡ one.kind) ⊎ (may_become one.kind two.kind ≡ true) → (three.kind ≡ two.kind) ⊎ (may_become two.kind three.kind ≡ true)
        → (three.kind ≡ one.kind) ⊎ (may_become one.kind three.kind ≡ true)
    go (inl first) (inl second) = inl (second ∙ first)
    go (inl first) (inr second) = inr (rw first at second)
    go (inr first) (inl second) = inr (rw (sym second) at first)
    go (inr first) (inr second) = inr (twice_may_become one.kind two.kind three.kind first second)

-- what stands in a later book for an entry
abbrev Stays : List ℕ → Entry → Book → Type 0
Stays identifier entry book = (later : Entry) × (found identifier book ≡ Some later) × Becomes entry later

-- after a ruling something stands for each entry
stays_after : (rules : Rules) (book : Book) (call : Call) (r : Ruling) → Says rules book call r
    → (identifier : List ℕ) (entry : Entry) → found identifier book ≡ Some entry → Stays identifier entry (book_after r book)
stays_after rules book call (refuses refusal) says identifier entry there = (entry, there, unchanged entry)
stays_after rules book call (tells answer) says identifier entry there = (entry, there, unchanged entry)
stays_after rules book call (enters new) says identifier entry there = (entry, found_before identifier book entry new there, unchanged entry)
stays_after rules book call (turns t kind answer) says identifier entry there =
    chosen (same identifier t) true false _ refl
    (λ own _.
    let is : identifier ≡ t = same_true identifier t own in
    let here = ap (λ identifier. found identifier book) (sym is) ∙ there in
    let one : says.entry ≡ entry = same_Some _ _ (sym says.here ∙ here) in
    let next = ap (λ entry. next_kind entry.kind says.event) (sym one) ∙ says.next in (
      of_kind kind entry,
      ap (λ identifier. found identifier (turned t kind book)) is ∙ found_turned t kind book entry here,
      record { identifier = refl; holder = refl; quota = refl; kind = inr (change entry.kind says.event kind next).becomes },
    ))
    (λ other _.
    (entry, found_turned_other identifier t kind book (apart identifier t other) ∙ there, unchanged entry))

pub entries_stay : EntriesStay
entries_stay rules book [] identifier entry there = (entry, there, unchanged entry)
entries_stay rules book (call ∷ calls) identifier entry there =
    let next = stays_after rules book call (ruling rules book call) (ruling_says rules book call) identifier entry there in
    let later = entries_stay rules (after rules book call) calls identifier next.0 next.1 in
    (later.0, later.1, becomes_twice entry next.0 later.0 next.2 later.2)
