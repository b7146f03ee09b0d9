-- What an exchange gave and declined, by what it sent and what came back, is what its ruling did.
use Rattle.std.proofs.Common.{◌≡◌, ℕ, Bool, true, false, cond, List, [], Some, None, Option, unwrap_or, ⊎_elim, refl, sym, ap, ◌∙◌}
use Rattle.std.specs.Option.{option_map, option_and, option_and_then, ForSome}
use Rattle.std.proofs.lemmas.Bool.{cond-false}
use Rattle.std.proofs.lemmas.Option.{none-some, same_Some}
use Rattle.oid.specs.Tree.{is_identifier}
use Rattle.book.specs.Book.{Book}
use Rattle.book.specs.Calls.{Call, collect, accept_grant, decline_grant}
use Rattle.book.specs.Rulings.{Ruling, refuses, enters, turns, tells, answer_of}
use Rattle.book.specs.Questions.{Rules, answer, ruling}
use Rattle.book.specs.Runs.{Sent, line, collects, accepts_grant, declines_grant, Back, too_short, written, unread, by_call, identifier_in, Lines, Recovers, made_by, line_answer, handed_back, back_at}
use Rattle.book.specs.Given.{Gift, gift_by, declined_by, gift_in, decline_in}
use Rattle.book.specs.Law.{quota_in}
use Rattle.book.proofs.Rows.{chosen}
use Rattle.book.proofs.Changes.{is_declined}
use Rattle.book.proofs.Ruled.{Says, row_gift, ruling_says}
use Rattle.book.proofs.Identified.{Identified, found_identified, entered_parent, entered_identified}

-- what a ruling gives, and what it declines
abbrev pub gift_of : Ruling → Option Gift
gift_of (enters entry) = Some (row_gift entry)
gift_of other = None

abbrev pub ended_of : Ruling → Option (List ℕ)
ended_of (turns t kind answer) = cond (is_declined kind) (Some t) None
ended_of other = None

-- a call that gives nothing has no ruling that gives
gift_none : (rules : Rules) (book : Book) (call : Call) (r : Ruling) → Says rules book call r
    → ((identifier : List ℕ) → gift_by call identifier ≡ None) → gift_of r ≡ None
gift_none rules book call (refuses refusal) says none = refl
gift_none rules book call (enters entry) says none = absurd (none-some _ (sym (none entry.identifier) ∙ says.gift entry.identifier))
gift_none rules book call (turns t kind answer) says none = refl
gift_none rules book call (tells answer) says none = refl

and_none : (o : Option (List ℕ)) → option_and {U = List ℕ} o None ≡ None
and_none None = refl
and_none (Some x) = refl

-- a ruling that declines is answered with an identifier, by a call that declines
ended_is : (rules : Rules) (book : Book) (call : Call) (r : Ruling) → Says rules book call r
    → option_and (identifier_in (by_call (answer_of r))) (declined_by call) ≡ ended_of r
ended_is rules book call (refuses refusal) says = refl
ended_is rules book call (enters entry) says = says.ends
ended_is rules book call (tells answer) says = ap (option_and (identifier_in (by_call answer))) says.ends ∙ ap (λ o. option_and o None) says.says
ended_is rules book call (turns t kind answer) says =
    chosen (is_declined kind) true false _ refl
    (λ declined _. ap (λ answer. option_and (identifier_in (by_call answer)) (declined_by call)) (says.names declined) ∙ says.ends)
    (λ kept _.
    let nothing = says.ends ∙ cond-false _ _ _ kept in
    ap (option_and (identifier_in (by_call answer))) nothing ∙ and_none (identifier_in (by_call answer)) ∙ sym (cond-false _ _ _ kept))

-- a call that declines nothing has no ruling that declines
ended_none : (rules : Rules) (book : Book) (call : Call) (r : Ruling) → Says rules book call r → declined_by call ≡ None → ended_of r ≡ None
ended_none rules book call (refuses refusal) says none = refl
ended_none rules book call (enters entry) says none = refl
ended_none rules book call (turns t kind answer) says none = sym says.ends ∙ none
ended_none rules book call (tells answer) says none = refl

-- a Grant's decline that is done has ended its entry, and no other
decline_spent_is : (rules : Rules) (book : Book) (t : List ℕ) (lines : Lines) (r : Ruling) → Says rules book (decline_grant t) r
    → decline_in lines (declines_grant t) (handed_back (answer_of r)) ≡ ended_of r
decline_spent_is rules book t lines (refuses refusal) says = refl
decline_spent_is rules book t lines (enters entry) says = absurd (none-some _ (sym says.ends))
decline_spent_is rules book t lines (tells answer) says = absurd (none-some _ (sym says.ends))
decline_spent_is rules book t lines (turns other kind answer) says =
    chosen (is_declined kind) true false _ refl
    (λ declined _. ap (λ answer. decline_in lines (declines_grant t) (handed_back answer)) (says.names declined) ∙ says.ends)
    (λ kept _. absurd (none-some _ (sym (says.ends ∙ cond-false _ _ _ kept))))

-- At a book whose entries all have identifiers:
module _ (rules : Rules) (book : Book) (identified : Identified book) where
  -- a ruling that gives has said so
  gift_is : (call : Call) (r : Ruling) → Says rules book call r → option_and_then (gift_by call) (identifier_in (by_call (answer_of r))) ≡ gift_of r
  gift_is call (refuses refusal) says = refl
  gift_is call (enters entry) says =
      let parent = entered_parent book identified rules call entry says in
      says.gift entry.identifier
      ∙ ap (λ giver. Some (record { giver = unwrap_or giver []; identifier = entry.identifier; offered = quota_in entry })) (sym parent)
  gift_is call (turns t kind answer) says =
      ⊎_elim (λ none. ap (option_and_then (gift_by call)) none) (λ some. ap (option_and_then (gift_by call)) some ∙ says.gift t) says.says
  gift_is call (tells answer) says = ap (option_and_then (gift_by call)) says.says ∙ says.gift says.o

  -- the identifier in an answer is one
  identifier_is : (call : Call) (r : Ruling) → Says rules book call r
      → ForSome (identifier_in (by_call (answer_of r))) (λ identifier. is_identifier identifier ≡ true)
  identifier_is call (refuses refusal) says = λ identifier e. absurd (none-some identifier e)
  identifier_is call (enters entry) says = λ identifier e.
      ap is_identifier (sym (same_Some _ _ e)) ∙ entered_identified book identified rules call entry says
  identifier_is call (turns t kind answer) says = λ identifier e.
      ⊎_elim (λ none. absurd (none-some identifier (sym none ∙ e)))
      (λ some. ap is_identifier (same_Some _ _ (sym e ∙ some)) ∙ found_identified book identified t says.entry says.here) says.says
  identifier_is call (tells answer) says = λ identifier e.
      ap is_identifier (same_Some _ _ (sym e ∙ says.says)) ∙ found_identified book identified says.o says.authority says.here

  -- what comes back of something sent tells what its ruling gave and declined; where no call was made, nothing
  module _ (lines : Lines) (sent : Sent) where
    abbrev pub Tells : Option Call → Back → Type 0
    Tells None back = (gift_in lines sent back ≡ None) × (decline_in lines sent back ≡ None)
    Tells (Some call) back = (gift_in lines sent back ≡ gift_of (ruling rules book call)) × (decline_in lines sent back ≡ ended_of (ruling rules book call))

  line_tells : (lines : Lines) → Recovers lines → (bytes : List ℕ) (page : ℕ) (roomy : Bool) (call : Option Call) → lines.has_room page ≡ roomy → lines.call_of bytes ≡ call
      → Tells lines (line bytes page) (cond roomy call None)
      (cond roomy (written (lines.bytes_of bytes page (line_answer (option_map (answer rules book) call)))) too_short)
  line_tells lines recovers bytes page false call room is = (refl, refl)
  line_tells lines recovers bytes page true None room is = (
    ap (option_and_then (λ call. option_and_then (gift_by call) (lines.recover (lines.bytes_of bytes page unread)))) is,
    ap (λ call. option_and (lines.recover (lines.bytes_of bytes page unread)) (option_and_then declined_by call)) is ∙ and_none _,
  )
  line_tells lines recovers bytes page true (Some call) room is =
      let r = ruling rules book call in
      let says = ruling_says rules book call in
      let read = recovers bytes page (by_call (answer_of r)) room (identifier_is call r says) in (
        ap (option_and_then (λ call. option_and_then (gift_by call) (lines.recover (lines.bytes_of bytes page (by_call (answer_of r)))))) is
            ∙ ap (option_and_then (gift_by call)) read ∙ gift_is call r says,
        ap (λ call. option_and (lines.recover (lines.bytes_of bytes page (by_call (answer_of r)))) (option_and_then declined_by call)) is
            ∙ ap (λ o. option_and o (declined_by call)) read ∙ ended_is rules book call r says,
      )

  pub sent_tells : (lines : Lines) → Recovers lines → (sent : Sent) → Tells lines sent (made_by lines sent) (back_at lines rules book sent)
  sent_tells lines recovers (line bytes page) = line_tells lines recovers bytes page (lines.has_room page) (lines.call_of bytes) refl refl
  sent_tells lines recovers (collects taker t) =
      let says = ruling_says rules book (collect taker t) in
      (sym (gift_none rules book _ _ says (λ _. refl)), sym (ended_none rules book _ _ says refl))
  sent_tells lines recovers (accepts_grant t) =
      let says = ruling_says rules book (accept_grant t) in
      (sym (gift_none rules book _ _ says (λ _. refl)), sym (ended_none rules book _ _ says refl))
  sent_tells lines recovers (declines_grant t) =
      let says = ruling_says rules book (decline_grant t) in
      (sym (gift_none rules book _ _ says (λ _. refl)), decline_spent_is rules book t lines _ says)
