-- After a refused founding the book stays empty, nothing is given, and each call is refused.
use Rattle.std.proofs.Common.{◌≡◌, cond, List, [], ◌∷◌, Some, None, Option, refl, sym, ap, ◌∙◌, subst}
use Rattle.std.specs.List.{cons_option}
use Rattle.std.proofs.lemmas.Option.{none-some}
use Rattle.book.specs.declared.refusal.Refusal.TheVariants.{NotInBook, NotInHand}
use Rattle.book.specs.declared.founding.FoundingRefusal.{FoundingRefusal}
use Rattle.book.specs.Book.{Book, found}
use Rattle.book.specs.Calls.{Call, grant}
use Rattle.book.specs.Rulings.{refuses, answer_of, book_after, there_is}
use Rattle.book.specs.Questions.{Rules, ruling, answer, after_all}
use Rattle.book.specs.Founding.{Founding, founding_refusal, root_entry, book_unless, founded}
use Rattle.book.specs.Runs.{Sent, Lines, Recovers, Exchange, Serves, Runs, made_by, back_at, after_made, book_at_end}
use Rattle.book.specs.Given.{gift_in, gifts}
use Rattle.book.specs.Beneath.{by_grant, RefusedFoundings}
use Rattle.book.proofs.Room.{HasRoom, RoomAlong}
use Rattle.book.proofs.Telling.{gift_of, Tells, sent_tells}

-- in the empty book nothing is found, which is what each call asks first
ruling_when_empty : (rules : Rules) (call : Call) → ruling rules [] call ≡ refuses (cond (by_grant call) NotInHand NotInBook)
unfolding found there_is
ruling_when_empty rules (grant holder o) = refl
ruling_when_empty rules call = refl

-- so the book after a call is empty
empty_after_made : (rules : Rules) (made : Option Call) → after_made rules [] made ≡ []
empty_after_made rules None = refl
empty_after_made rules (Some call) = ap (λ ruling. book_after ruling []) (ruling_when_empty rules call)

module _ (lines : Lines) (rules : Rules) where
  -- and so is the book after an exchange
  empty_after : (book : Book) (exchange : Exchange) → book ≡ [] → Serves lines rules book exchange → exchange.book ≡ []
  empty_after book exchange empty served =
      served.leaves ∙ ap (λ book. after_made rules book (made_by lines exchange.sent)) empty ∙ empty_after_made rules (made_by lines exchange.sent)

  pub empty_at_end : (book : Book) (run : List Exchange) → book ≡ [] → Runs lines rules book run → book_at_end book run ≡ []
  empty_at_end book [] empty runs = empty
  empty_at_end book (exchange ∷ run) empty runs = empty_at_end exchange.book run (empty_after book exchange empty runs.0) runs.1

  -- nothing is given
  none_given : Recovers lines → (sent : Sent) → gift_in lines sent (back_at lines rules [] sent) ≡ None
  none_given recovers sent = go (made_by lines sent) (sent_tells rules [] tt lines recovers sent)
    where
      go : (made : Option Call) → Tells rules [] tt lines sent made (back_at lines rules [] sent) → gift_in lines sent (back_at lines rules [] sent) ≡ None
      go None both = both.0
      go (Some call) both = both.0 ∙ ap gift_of (ruling_when_empty rules call)

  pub empty_gives : Recovers lines → (book : Book) (run : List Exchange) → book ≡ [] → Runs lines rules book run → gifts lines run ≡ []
  empty_gives recovers book [] empty runs = refl
  empty_gives recovers book (exchange ∷ run) empty runs =
      ap (λ gift. cons_option gift (gifts lines run))
      (ap (gift_in lines exchange.sent) (runs.0.answered ∙ ap (λ book. back_at lines rules book exchange.sent) empty) ∙ none_given recovers exchange.sent)
      ∙ empty_gives recovers exchange.book run (empty_after book exchange empty runs.0) runs.1

  -- and where nobody is found, there is room wherever somebody has 1 left
  empty_room : HasRoom []
  unfolding found
  empty_room = record { room = λ o authority here opened some. absurd (none-some authority here) }

  pub empty_roomy : (book : Book) (run : List Exchange) → book ≡ [] → Runs lines rules book run → RoomAlong book run
  empty_roomy book [] empty runs = subst HasRoom (sym empty) empty_room
  empty_roomy book (exchange ∷ run) empty runs =
      (subst HasRoom (sym empty) empty_room, empty_roomy exchange.book run (empty_after book exchange empty runs.0) runs.1)

pub refused_book : (founding : Founding) (refusal : FoundingRefusal) → founding_refusal founding ≡ Some refusal → founded founding ≡ []
refused_book founding refusal refused = ap (λ refusal. book_unless refusal (root_entry founding)) refused

empty_after_all : (rules : Rules) (calls : List Call) → after_all rules [] calls ≡ []
empty_after_all rules [] = refl
empty_after_all rules (call ∷ calls) =
    ap (λ book. after_all rules book calls) (ap (λ ruling. book_after ruling []) (ruling_when_empty rules call)) ∙ empty_after_all rules calls

pub refused_foundings : RefusedFoundings
refused_foundings founding refusal is calls =
    let empty = ap (λ book. after_all founding.rules book calls) (refused_book founding refusal is) ∙ empty_after_all founding.rules calls in
    (empty, λ call. ap (λ book. answer founding.rules book call) empty ∙ ap answer_of (ruling_when_empty founding.rules call))
