-- What an exchange sends back and leaves, where it is placed at or below X, and where it is not.
use Rattle.std.proofs.Common.{◌≡◌, ℕ, ◌≤◌, Bool, true, false, cond, List, length, Some, None, Option, refl, sym, ap, ◌∙◌, subst}
use Rattle.std.specs.Option.{option_map, option_and_then}
use Rattle.arc_rules.specs.Laws.{SameArcs}
use Rattle.book.specs.Book.{Book}
use Rattle.book.specs.Calls.{Call, place_of}
use Rattle.book.specs.Rulings.{answer_of, book_after}
use Rattle.book.specs.Questions.{Rules, ruling, answer}
use Rattle.book.specs.Runs.{Lines, Sent, line, collects, accepts_grant, declines_grant, written, too_short, line_answer, handed_back, call_in, placed, made_by, back_at, after_made}
use Rattle.book.specs.Law.{is_within, outside}
use Rattle.book.proofs.Room.{HasRoom}
use Rattle.book.proofs.Outside.{Touches, after_outside, after_within}
use Rattle.book.proofs.Touching.{touches}
use Rattle.book.proofs.Unfelt.{ruling-same}

option_map-same : {A B : Type 0} (one other : A → B) (thing : Option A) → ((a : A) → thing ≡ Some a → one a ≡ other a)
    → option_map one thing ≡ option_map other thing
option_map-same one other None same = refl
option_map-same one other (Some a) same = ap Some (same a refl)

module _ (lines : Lines) where
  -- a call that is made is one that was sent
  made_is_sent : (sent : Sent) (call : Call) → made_by lines sent ≡ Some call → call_in lines sent ≡ Some call
  made_is_sent (line bytes page) call is = go (lines.has_room page) is
    where
      go : (room : Bool) → cond room (lines.call_of bytes) None ≡ Some call → lines.call_of bytes ≡ Some call
      go true is = is
      go false is = absurd (cc)
  made_is_sent (collects taker t) call is = is
  made_is_sent (accepts_grant t) call is = is
  made_is_sent (declines_grant t) call is = is

  -- what comes back is the same where the answer to the call that was sent is
  back-same : (one other : Rules) (book second : Book) (sent : Sent)
      → ((call : Call) → call_in lines sent ≡ Some call → answer one book call ≡ answer other second call)
      → back_at lines one book sent ≡ back_at lines other second sent
  back-same one other book second (line bytes page) same =
      ap (λ told. cond (lines.has_room page) (written (lines.bytes_of bytes page (line_answer told))) too_short)
      (option_map-same (answer one book) (answer other second) (lines.call_of bytes) same)
  back-same one other book second (collects taker t) same = ap handed_back (same _ refl)
  back-same one other book second (accepts_grant t) same = ap handed_back (same _ refl)
  back-same one other book second (declines_grant t) same = ap handed_back (same _ refl)

  module _ (x : List ℕ) (long : 2 ≤ length x) where
    place_is : (sent : Sent) (call : Call) → call_in lines sent ≡ Some call → is_within x (placed lines sent) ≡ is_within x (place_of call)
    place_is sent call is = ap (λ sent. is_within x (option_and_then place_of sent)) is

    -- what is sent touches what is below X where it is placed there, and only there
    sent-touches : (side : Bool) (sent : Sent) (call : Call) → call_in lines sent ≡ Some call → is_within x (placed lines sent) ≡ side
        → (rules : Rules) (book : Book) → Touches x side (ruling rules book call)
    sent-touches side sent call is place rules book =
        subst (λ side. Touches x side (ruling rules book call)) (sym (place_is sent call is) ∙ place) (touches x long rules book call)

    -- an exchange that is placed at or below X leaves the book as it was, seen from outside X
    pub within-unseen : (rules : Rules) (book : Book) (sent : Sent) → is_within x (placed lines sent) ≡ true
        → outside x (after_made rules book (made_by lines sent)) ≡ outside x book
    within-unseen rules book sent within = go (made_by lines sent) (made_is_sent sent)
      where
        go : (made : Option Call) → ((call : Call) → made ≡ Some call → call_in lines sent ≡ Some call)
            → outside x (after_made rules book made) ≡ outside x book
        go None is = refl
        go (Some call) is = after_within x (ruling rules book call) (sent-touches true sent call (is call refl) within rules book) book

    module _ (one other : Rules) (panels : SameArcs one.panels.set other.panels.set)
        (authorities : SameArcs one.authorities.set other.authorities.set)
        (book second : Book) (agree : outside x book ≡ outside x second) (room : HasRoom book) (second_room : HasRoom second)
        (sent : Sent) (out : is_within x (placed lines sent) ≡ false) where
      rulings : (call : Call) → call_in lines sent ≡ Some call → ruling one book call ≡ ruling other second call
      rulings call is =
          ruling-same x long book second agree room second_room one other panels authorities call (sym (place_is sent call is) ∙ out)

      elsewhere-back : back_at lines one book sent ≡ back_at lines other second sent
      elsewhere-back = back-same one other book second sent (λ call is. ap answer_of (rulings call is))

      elsewhere-left : outside x (after_made one book (made_by lines sent)) ≡ outside x (after_made other second (made_by lines sent))
      elsewhere-left = go (made_by lines sent) (made_is_sent sent)
        where
          go : (made : Option Call) → ((call : Call) → made ≡ Some call → call_in lines sent ≡ Some call)
              → outside x (after_made one book made) ≡ outside x (after_made other second made)
          go None is = agree
          go (Some call) is =
              let sent_is = is call refl in
              let touched = sent-touches false sent call sent_is out in
              after_outside x (ruling one book call) (touched one book) book
              ∙ (λ i. book_after (rulings call sent_is i) (agree i))
              ∙ sym (after_outside x (ruling other second call) (touched other second) second)

      -- an exchange elsewhere sends back the same at two books that are the same, seen from outside X, and leaves two that are
      pub elsewhere-same : (back_at lines one book sent ≡ back_at lines other second sent)
          × (outside x (after_made one book (made_by lines sent)) ≡ outside x (after_made other second (made_by lines sent)))
      elsewhere-same = (elsewhere-back, elsewhere-left)
