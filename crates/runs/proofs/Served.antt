-- Calls of Grants as they are served at a desk.
use Rattle.std.proofs.Common.{refl, ◌≡◌, ℕ, List, [], ◌∷◌, ◌++◌, Some, sym, ap, ◌∙◌, subst, Option, None, ◌<◌, arith, length}
use Rattle.std.specs.Prelude.{position, remove}
use Rattle.std.specs.List.{slice_index_or}
use Rattle.std.proofs.lemmas.List.{map_push}
use Rattle.oid.specs.Meaning.{arcs_of}
use Rattle.oid.specs.declared.identifier.Identifier.{Identifier}
use Rattle.book.specs.Book.{Book}
use Rattle.book.specs.Calls.{Call, collect, accept_grant, decline_grant}
use Rattle.book.specs.Grants.{IsOwn, answer_spent}
use Rattle.book.specs.Questions.{Rules, ruling, answer, after}
use Rattle.book.specs.Rulings.{Answer, collected, refused}
use Rattle.book.specs.Runs.{Sent, done, number, back_at, handed_back, after_made, made_by, Serves}
use Rattle.book.specs.declared.event.Event.{Event}
use Rattle.book.specs.declared.event.Event.TheVariants.{AcceptGrant, DeclineGrant}
use Rattle.runs.proofs.AtDesk.{hands_at}
use Rattle.request.specs.RequestLines.{request_lines}
use Rattle.register.specs.Granted as register
use Rattle.book.specs.declared.refusal.Refusal.{Refusal}
use Rattle.std.specs.Option.{ForSome}
use Rattle.book.specs.declared.founding.FoundingRefusal.{FoundingRefusal}
use Rattle.register.specs.Kept.{book_in}
use Rattle.register.specs.declared.row.Row.{Row}
use Rattle.register.specs.Granted.{grant_of}
use Rattle.register.specs.Registers.{book_of, serial_of, Follows}
use Rattle.register.specs.declared.grant.Grant as code
use Rattle.runs.specs.Hands.{Held, Hands, is_for}
use Rattle.runs.specs.Out.{held_of, held_in}
use Rattle.runs.specs.declared.desk.Desk.{Desk}
use Rattle.runs.specs.declared.held.Held as out
use Rattle.runs.proofs.Keeping.{refused_keeps, collected_keeps}
use Rattle.runs.proofs.Reordering.{out_at, out_without}
use Rattle.runs.proofs.Spending.{Refuses, Spends, SpendsBoth, spends_at}

-- the same Grants are out where serial and book are the same
pub hands_along : (serial same : ℕ) (book later : Book) (held : List Held) → same ≡ serial → later ≡ book → Hands serial book held → Hands same later held
hands_along serial same book later held is leaves hands = subst (λ serial. Hands serial later held) (sym is) (subst (λ book. Hands serial book held) (sym leaves) hands)

module _ (rules : Rules) (serial same : ℕ) (book later : Book) (held : List out.Held) (taker : ℕ) (t : List ℕ)
    (kept : same ≡ serial) (hands : Hands serial book (held_in held)) where
  -- after a collect that was refused
  pub refused_hands : (refusal : Refusal) → Follows (ruling rules book (collect taker t)) book (refused refusal) later → Hands same later (held_in held)
  refused_hands refusal follows =
      hands_along serial same (after rules book (collect taker t)) later (held_in held) kept follows.leaves
      (refused_keeps rules serial book (held_in held) taker t refusal (sym follows.answers) hands)

  -- after one that passed, with the Grant that it gave
  pub collected_hands : (entry : Identifier) (grant handed : code.Grant) (held_after : List out.Held) → arcs_of entry ≡ t
      → Follows (ruling rules book (collect taker t)) book (collected grant.holder grant.quota) later
      → IsOwn same later t (grant_of grant) → handed ≡ grant → held_after ≡ held ++ record { entry = entry; grant = handed } ∷ []
      → Hands same later (held_in held_after)
  collected_hands entry grant handed held_after named follows own back more =
      let own_before : IsOwn serial (after rules book (collect taker t)) t (grant_of grant) =
      subst (λ serial. IsOwn serial (after rules book (collect taker t)) t (grant_of grant)) kept
      (subst (λ book. IsOwn same book t (grant_of grant)) follows.leaves own) in
      let hands_after = collected_keeps rules serial book (held_in held) taker t grant.holder grant.quota (grant_of grant) (sym follows.answers) own_before hands in
      let list : held_in held_after ≡ held_in held ++ record { identifier = t; grant = grant_of grant } ∷ [] =
      ap held_in more ∙ map_push held_of held (record { entry = entry; grant = handed })
      ∙ ap (λ one. held_in held ++ one ∷ []) ((λ i. record { identifier = named i; grant = grant_of (back i) })) in
      subst (Hands same later) (sym list) (hands_along serial same _ later _ kept follows.leaves hands_after)

-- The Grant that is kept for T, taken out: its calls are those that name T, and pass.
module _ {P A : Type 0} (rules : Rules) (desk : Desk P A) (t : List ℕ) (place : ℕ) (taken : out.Held) (rest : List out.Held)
    (first : position (is_for t) (held_in desk.held.items) ≡ Some place) (is : taken ≡ slice_index_or desk.held.items place taken)
    (removed : rest ≡ remove desk.held.items place) where
  abbrev PassesAs : Event → Call → Type 0
  PassesAs event call = Spends rules (serial_of desk.register) (book_of desk.register) (held_of taken) (held_in rest) event call

  pub spends_taken : PassesAs AcceptGrant (accept_grant t) × PassesAs DeclineGrant (decline_grant t)
  spends_taken =
      let there = out_at desk.held.items t place taken first is in
      let both = subst (λ rest. SpendsBoth rules (serial_of desk.register) (book_of desk.register) (held_of taken) rest)
      (sym (ap held_in removed ∙ out_without desk.held.items place))
      (spends_at rules (serial_of desk.register) (book_of desk.register) (held_in desk.held.items) place (held_of taken) (hands_at desk) there.0) in
      (subst (λ t. PassesAs AcceptGrant (accept_grant t)) there.1 both.0, subst (λ t. PassesAs DeclineGrant (decline_grant t)) there.1 both.1)

-- where no Grant is kept for T
pub serves_none : {rules : Rules} {book : Book} {call : Call} (sent : Sent) → Refuses rules book call
    → back_at request_lines rules book sent ≡ handed_back (answer rules book call)
    → after_made rules book (made_by request_lines sent) ≡ after rules book call
    → Serves request_lines rules book (record { sent = sent; back = number 22; book = book })
serves_none sent refuses returns leaves = record { answered = ap handed_back (sym refuses.answers) ∙ sym returns; leaves = sym (leaves ∙ refuses.leaves) }

-- where the one that is kept was spent
module _ {rules : Rules} {serial : ℕ} {book : Book} {one : Held} {rest : List Held} {event : Event} {call : Call}
    (spends : Spends rules serial book one rest event call) {told : Answer} {later : Book}
    (spent : register.Spends serial book one.grant event told later) where
  pub serves_spent : (sent : Sent) → back_at request_lines rules book sent ≡ handed_back (answer rules book call)
      → after_made rules book (made_by request_lines sent) ≡ after rules book call
      → Serves request_lines rules book (record { sent = sent; back = done; book = later })
  serves_spent sent returns leaves =
      record { answered = ap handed_back (sym spends.answers) ∙ sym returns; leaves = spent.leaves ∙ spends.does.leaves ∙ sym leaves }

  pub hands_spent : (same : ℕ) → same ≡ serial → Hands same later rest
  hands_spent same kept = hands_along serial same _ later rest kept (spent.leaves ∙ spends.does.leaves) spends.keeps

  -- it is not refused
  pub passes : (refusal : Refusal) → told ≡ refused refusal → ⊥
  passes refusal is = let z = sym is ∙ spent.answers ∙ ap answer_spent spends.spends in cc

-- a register with an entry was not refused
pub not_refused : (refused_for : Option FoundingRefusal) (rows : List Row) (count : ℕ) → ForSome refused_for (λ _. rows ≡ [])
    → count < length (book_in rows) → refused_for ≡ None
not_refused None rows count emptied more = refl
not_refused (Some refusal) rows count emptied more = let none = ap (λ rows. length (book_in rows)) (emptied refusal refl) in absurd (omega (arith, none, more))
