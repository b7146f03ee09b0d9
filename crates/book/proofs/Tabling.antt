-- The tables of the third example.
use Rattle.std.proofs.Common.{◌≡◌, map, refl, ap, ◌∙◌, [], ◌∷◌}
use Rattle.std.specs.Option.{option_map, option_and_then}
use Rattle.std.proofs.lemmas.Bool.{cond-true, cond-false}
use Rattle.book.specs.Book.{found, parent_in}
use Rattle.book.specs.Calls.{collect, accept_grant, place_of}
use Rattle.book.specs.Rulings.{refused, named, collected, ask, there_is}
use Rattle.book.specs.Questions.{answer}
use Rattle.book.specs.Runs.{handed_back, written, line_answer}
use Rattle.book.specs.Grants.{spent, answer_spent}
use Rattle.book.specs.Example.{hall, hall_rules, below_hall}
use Rattle.book.specs.Edges.{panel_of_7, offered_book}
use Rattle.book.specs.Tables.{some_grants, WrittenTables}
use Rattle.book.specs.declared.event.Event.TheVariants.{AcceptGrant}
use Rattle.book.specs.declared.kind.Kind.TheVariants.{Offered, InHand}
use Rattle.book.specs.declared.refusal.Refusal.TheVariants.{NotInHand}
use Rattle.book.proofs.Worked.{all_calls}
use Rattle.book.proofs.Edging.{with_offer, after_an_offer, after_a_collect}

accepts_in_hand : answer hall_rules (with_offer InHand) (accept_grant (below_hall 1)) ≡ named (below_hall 1)
unfolding found there_is
accepts_in_hand = refl

refuses_offered : answer hall_rules (with_offer Offered) (accept_grant (below_hall 1)) ≡ refused NotInHand
unfolding found there_is
refuses_offered = refl

collects_offered : answer hall_rules (with_offer Offered) (collect 8 (below_hall 1)) ≡ collected 8 2
unfolding found there_is ask
collects_offered = refl

pub written_tables : WrittenTables
unfolding found
written_tables = record {
  places = refl;
  numbers = refl;
  foundings = refl;
  founding_numbers = refl;
  limits = refl;
  parents = ap (λ book. map (λ t. parent_in t book) (panel_of_7 ∷ hall ∷ [])) all_calls.leaves;
  backs = refl;
  identifiers = refl;
  grants = ap (λ book. map (λ row. answer_spent (spent 5 book row.0 AcceptGrant)) some_grants) after_a_collect;
  exchanges = λ lines. record {
    collect_back = ap (λ book. handed_back (answer hall_rules book (collect 8 (below_hall 1)))) after_an_offer ∙ ap handed_back collects_offered;
    collect_left = refl;
    accept_back = ap (λ book. handed_back (answer hall_rules book (accept_grant (below_hall 1)))) after_a_collect ∙ ap handed_back accepts_in_hand;
    accept_left = refl;
    accept_refused = ap (λ book. handed_back (answer hall_rules book (accept_grant (below_hall 1)))) after_an_offer ∙ ap handed_back refuses_offered;
    too_short_back = λ bytes page room is. (cond-false _ _ _ room, ap (option_and_then place_of) is);
    unread_back = λ bytes page room is.
        cond-true _ _ _ room ∙ ap (λ call. written (lines.bytes_of bytes page (line_answer (option_map (answer hall_rules offered_book) call)))) is;
  };
}
