-- Neighbours are unfelt: what is sent at or below X changes nothing of the answers elsewhere, nor of the entries that are not below X.
use Rattle.std.proofs.Common.{◌≡◌, ℕ, ◌≤◌, Bool, true, false, cond, not, List, [], ◌∷◌, length, refl, sym, ap, ◌∙◌}
use Rattle.std.specs.Prelude.{map}
use Rattle.arc_rules.specs.Laws.{SameArcs}
use Rattle.book.specs.Book.{Book, found}
use Rattle.book.specs.Questions.{Rules}
use Rattle.book.specs.Runs.{Lines, placed, made_by, back_at, after_made, Exchange, Serves, Runs, book_at_end}
use Rattle.book.specs.Law.{is_within, elsewhere, sent_elsewhere, outside, SameElsewhere}
use Rattle.book.proofs.Room.{HasRoom, RoomAlong}
use Rattle.book.proofs.Exchanges.{within-unseen, elsewhere-same}
use Rattle.book.proofs.Unfelt.{told_left-same}

module _ (lines : Lines) (x : List ℕ) (long : 2 ≤ length x) where
  -- an exchange elsewhere was served at some book that is the same as this one, seen from outside X
  record Link (rules : Rules) (book : Book) (exchange : Exchange) : Type 0 where
    before : Book
    agree : outside x book ≡ outside x before
    room : HasRoom before
    serves : Serves lines rules before exchange
    out : is_within x (placed lines exchange.sent) ≡ false

  -- the exchanges elsewhere lead so from a book to another, whatever was sent between them
  abbrev Chain : Rules → Book → List Exchange → Book → Type 0
  Chain rules book [] end = outside x book ≡ outside x end
  Chain rules book (exchange ∷ exchanges) end = Link rules book exchange × Chain rules exchange.book exchanges end

  -- it matters only what is seen of the first book
  chain_from : (rules : Rules) (book start end : Book) (exchanges : List Exchange) → outside x start ≡ outside x book
      → Chain rules book exchanges end → Chain rules start exchanges end
  chain_from rules book start end [] same chain = same ∙ chain
  chain_from rules book start end (exchange ∷ exchanges) same chain =
      (record { before = chain.0.before; agree = same ∙ chain.0.agree; room = chain.0.room; serves = chain.0.serves; out = chain.0.out }, chain.1)

  -- those of a run lead to the book that it leaves
  run_chain : (rules : Rules) (book : Book) (run : List Exchange) → Runs lines rules book run → RoomAlong book run
      → Chain rules book (elsewhere lines x run) (book_at_end book run)
  run_chain rules book [] runs room = refl
  run_chain rules book (exchange ∷ run) runs room =
      go (is_within x (placed lines exchange.sent)) refl (run_chain rules exchange.book run runs.1 room.1)
    where
      go : (within : Bool) → is_within x (placed lines exchange.sent) ≡ within
          → Chain rules exchange.book (elsewhere lines x run) (book_at_end exchange.book run)
          → Chain rules book (cond (not within) (exchange ∷ elsewhere lines x run) (elsewhere lines x run)) (book_at_end exchange.book run)
      go true within rest =
          let unseen = ap (outside x) runs.0.leaves ∙ within-unseen lines x long rules book exchange.sent within in
          chain_from rules exchange.book book _ (elsewhere lines x run) (sym unseen) rest
      go false out rest = (record { before = book; agree = refl; room = room.0; serves = runs.0; out = out }, rest)

  module _ (one other : Rules) (panels : SameArcs one.panels.set other.panels.set)
      (authorities : SameArcs one.authorities.set other.authorities.set) where
    -- two exchanges elsewhere that were sent the same, under rules with the same arcs, sent back the same and left the same outside X
    links_agree : (book second : Book) (exchange next : Exchange) → outside x book ≡ outside x second
        → Link one book exchange → Link other second next → exchange.sent ≡ next.sent
        → (exchange.back ≡ next.back) × (outside x exchange.book ≡ outside x next.book)
    links_agree book second exchange next agree here there sent =
        let seen = sym here.agree ∙ agree ∙ there.agree in
        let same =
        elsewhere-same lines x long one other panels authorities here.before there.before seen here.room there.room exchange.sent here.out in (
          here.serves.answered ∙ same.0 ∙ ap (back_at lines other there.before) sent ∙ sym there.serves.answered,
          ap (outside x) here.serves.leaves ∙ same.1 ∙ ap (λ sent. outside x (after_made other there.before (made_by lines sent))) sent
              ∙ ap (outside x) (sym there.serves.leaves),
        )

    -- and so did all of them
    chains_agree : (book second end final : Book) (run others : List Exchange) → outside x book ≡ outside x second
        → Chain one book run end → Chain other second others final
        → map (λ exchange. exchange.sent) run ≡ map (λ exchange. exchange.sent) others
        → (map (λ exchange. exchange.back) run ≡ map (λ exchange. exchange.back) others) × (outside x end ≡ outside x final)
    chains_agree book second end final [] [] agree here there sent = (refl, sym here ∙ agree ∙ there)
    chains_agree book second end final [] (next ∷ others) agree here there sent = absurd (cc)
    chains_agree book second end final (exchange ∷ run) [] agree here there sent = absurd (cc)
    chains_agree book second end final (exchange ∷ run) (next ∷ others) agree here there sent =
        let sent_first : exchange.sent ≡ next.sent = cc in
        let first = links_agree book second exchange next agree here.0 there.0 sent_first in
        let rest = chains_agree exchange.book next.book end final run others first.1 here.1 there.1 (cc) in
        ((λ i. first.0 i ∷ rest.0 i), rest.1)

-- Two runs from one book, under rules with the same arcs, that sent the same apart from what is placed at or below X: elsewhere the answers
-- are the same, and so are the entries that are not below X.
pub neighbours : (lines : Lines) (one other : Rules) (book : Book) (x : List ℕ) → 2 ≤ length x
    → SameArcs one.panels.set other.panels.set → SameArcs one.authorities.set other.authorities.set
    → (run others : List Exchange) → Runs lines one book run → Runs lines other book others
    → RoomAlong book run → RoomAlong book others
    → sent_elsewhere lines x run ≡ sent_elsewhere lines x others
    → SameElsewhere lines x book book run others
neighbours lines one other book x long panels authorities run others runs runs_too room room_too sent =
    let same = chains_agree lines x long one other panels authorities book book _ _ (elsewhere lines x run) (elsewhere lines x others) refl
    (run_chain lines x long one book run runs room) (run_chain lines x long other book others runs_too room_too) sent in
    record { answers = same.0; entries = λ identifier. ap (found identifier) same.1; left = told_left-same x long _ _ same.1 }
