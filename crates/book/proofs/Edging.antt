-- The answers of the second example, and what its books have left.
use Rattle.std.proofs.Common.{◌≡◌, ℕ, ◌^◌, ◌<◌, true, List, [], ◌∷◌, ◌++◌, nat_le, map, refl, sym, ap, ◌∙◌, subst, arith}
use Rattle.std.proofs.lemmas.Bool.{le-leb, lt-leb, and_left, and_right}
use Rattle.oid.specs.Arcs.{arc_limit}
use Rattle.oid.proofs.Arcs.{limit_width}
use Rattle.arc_rules.specs.Sets.{ArcSet, from_to}
use Rattle.book.specs.declared.kind.Kind.{Kind}
use Rattle.book.specs.declared.kind.Kind.TheVariants.{Panel, Offered, InHand, Declined}
use Rattle.book.specs.Book.{Entry, Book, found, children, is_taken}
use Rattle.book.specs.Left.{used, left}
use Rattle.book.specs.Free.{untaken}
use Rattle.book.specs.Order.{in_order}
use Rattle.book.specs.Calls.{Call, offer, decline, collect}
use Rattle.book.specs.Rulings.{Answer, enters, book_after, turned, ask, there_is}
use Rattle.book.specs.Questions.{Rules, ruling, answer, after_all}
use Rattle.book.specs.Founding.{founded}
use Rattle.book.specs.Example.{hall, hall_rules, hall_founding, below_hall}
use Rattle.book.specs.Edges.{GetAnswers, hall_edges, offered_edges, collected_edges, declined_edges, deepest_founding, deepest_edges, next_deepest, next_deepest_founding, next_deepest_edges, deep_panel, granted_book, granted_edges, bare_rules, bare_founding, spent_edges, bare_edges, EdgeAnswers, told, low_rules, low_founding, low_edges, offered_book, collected_book, declined_book}
use Rattle.book.proofs.Worked.{before_first, before_ninth, lowest_is, none_in, free_panels, all_calls}

-- each call gets its answer where the list of what they are answered is the list of the answers
each : (rules : Rules) (book : Book) (edges : List (Call × Answer)) → map (λ edge. answer rules book edge.0) edges ≡ map (λ edge. edge.1) edges
    → GetAnswers rules book edges
each rules book [] same = tt
each rules book (edge ∷ edges) same = (cc, each rules book edges (cc))

-- a small number is an arc
small : (arc : ℕ) → arc < 2 ^ 32 → nat_le arc arc_limit ≡ true
small arc fits = le-leb arc arc_limit (limit_width arc fits)

abbrev free_arcs : List ℕ → Book → ArcSet
free_arcs o book = untaken hall_rules.authorities.set (children o book)

at_hall : GetAnswers hall_rules before_ninth hall_edges
unfolding found ask there_is children is_taken used left in_order
at_hall = each hall_rules before_ninth hall_edges (rw (
  lowest_is (free_arcs hall before_ninth) 3 (omega arith) refl refl,
  lowest_is (free_arcs (below_hall 1) before_ninth) 1 (omega arith) refl refl,
  small 1 (omega arith),
  small 99 (omega arith),
  small 100 (omega arith),
  small 101 (omega arith),
  small 103 (omega arith),
))

-- The offer to the holder 8, and the book with it.
abbrev offer_to_8 : Kind → Entry
offer_to_8 kind = record { identifier = below_hall 1; kind = kind; holder = 8; quota = 2 }

abbrev pub with_offer : Kind → Book
with_offer kind = before_first ++ offer_to_8 kind ∷ []

offers : ruling hall_rules before_first (offer 1 hall 2 8) ≡ enters (offer_to_8 Offered)
unfolding found ask there_is children is_taken used left
offers = rw (lowest_is (free_arcs hall before_first) 1 (omega arith) refl refl)

-- what comes after the offer
after_offer : (calls : List Call) (end : Book) → after_all hall_rules (with_offer Offered) calls ≡ end
    → after_all hall_rules (founded hall_founding) (offer 1 hall 2 8 ∷ calls) ≡ end
after_offer calls end leaves = ap (λ what. after_all hall_rules (book_after what before_first) calls) offers ∙ leaves

at_offered : GetAnswers hall_rules (with_offer Offered) offered_edges
unfolding found ask there_is children is_taken used left
at_offered = each hall_rules (with_offer Offered) offered_edges
    (rw (lowest_is (free_arcs hall (with_offer Offered)) 3 (omega arith) refl refl))

at_collected : GetAnswers hall_rules (with_offer InHand) collected_edges
unfolding found ask there_is children is_taken used left
at_collected = each hall_rules (with_offer InHand) collected_edges
    (rw (lowest_is (free_arcs hall (with_offer InHand)) 3 (omega arith) refl refl))

collects : after_all hall_rules (with_offer Offered) (collect 8 (below_hall 1) ∷ []) ≡ with_offer InHand
unfolding found ask there_is turned
collects = refl

at_declined : GetAnswers hall_rules (with_offer Declined) declined_edges
unfolding found ask there_is children is_taken used left
at_declined = each hall_rules (with_offer Declined) declined_edges
    (rw (lowest_is (free_arcs hall (with_offer Declined)) 3 (omega arith) refl refl))

declines : after_all hall_rules (with_offer Offered) (decline 8 (below_hall 1) ∷ []) ≡ with_offer Declined
unfolding found ask there_is turned
declines = refl

-- the deep roots
at_deepest : GetAnswers hall_rules (founded deepest_founding) deepest_edges
unfolding found ask there_is children used left in_order
at_deepest = each hall_rules (founded deepest_founding) deepest_edges refl

at_next_deepest : GetAnswers hall_rules (founded next_deepest_founding) next_deepest_edges
unfolding found ask there_is children is_taken used left
at_next_deepest = each hall_rules (founded next_deepest_founding) next_deepest_edges (rw (
  lowest_is (free_panels next_deepest (founded next_deepest_founding)) 100 (omega arith) refl refl,
  lowest_is (free_arcs next_deepest (founded next_deepest_founding)) 1 (omega arith) refl refl,
  small 101 (omega arith),
))

abbrev with_panel : Book
with_panel = founded next_deepest_founding ++ record { identifier = deep_panel; kind = Panel; holder = 1; quota = 0 } ∷ []

grants : granted_book ≡ with_panel
unfolding found ask there_is children is_taken used left
grants = rw (lowest_is (free_panels next_deepest (founded next_deepest_founding)) 100 (omega arith) refl refl)

at_granted : GetAnswers hall_rules with_panel granted_edges
unfolding found ask there_is children is_taken used left
at_granted = each hall_rules with_panel granted_edges refl

-- 2.999 without panels
at_spent : GetAnswers bare_rules (founded (bare_founding 0)) spent_edges
unfolding found ask there_is children used left
at_spent = each bare_rules (founded (bare_founding 0)) spent_edges refl

at_bare : GetAnswers bare_rules (founded (bare_founding 1)) bare_edges
unfolding found ask there_is children is_taken used left
at_bare = each bare_rules (founded (bare_founding 1)) bare_edges (rw (
  none_in (untaken bare_rules.panels.set []) 3 refl
      (λ arc above. and_left (from_to 3 2 arc) _ (and_right (nat_le 3 arc) _ (lt-leb arc 2 above))),
  lowest_is (free_arcs hall (founded (bare_founding 1))) 1 (omega arith) refl refl,
  small 2 (omega arith),
  small 3 (omega arith),
))

at_low : GetAnswers low_rules (founded low_founding) low_edges
unfolding found ask there_is children is_taken used left
at_low = each low_rules (founded low_founding) low_edges (rw (
  lowest_is (untaken low_rules.panels.set []) 0 (omega arith) refl refl,
  lowest_is (untaken low_rules.authorities.set []) 0 (omega arith) refl refl,
  small 0 (omega arith),
))

pub after_an_offer : offered_book ≡ with_offer Offered
after_an_offer = after_offer [] (with_offer Offered) refl

pub after_a_collect : collected_book ≡ with_offer InHand
after_a_collect = after_offer (collect 8 (below_hall 1) ∷ []) (with_offer InHand) collects

after_a_decline : declined_book ≡ with_offer Declined
after_a_decline = after_offer (decline 8 (below_hall 1) ∷ []) (with_offer Declined) declines

pub edge_answers : EdgeAnswers
unfolding found children used left
edge_answers = record {
  after_ten_calls = subst (λ book. GetAnswers hall_rules book hall_edges) (sym all_calls.leaves) at_hall;
  with_an_offer = subst (λ book. GetAnswers hall_rules book offered_edges) (sym after_an_offer) at_offered;
  with_a_grant = subst (λ book. GetAnswers hall_rules book collected_edges) (sym after_a_collect) at_collected;
  with_a_decline = subst (λ book. GetAnswers hall_rules book declined_edges) (sym after_a_decline) at_declined;
  deepest = at_deepest;
  next_deepest = at_next_deepest;
  granted = subst (λ book. GetAnswers hall_rules book granted_edges) (sym grants) at_granted;
  nothing_left = at_spent;
  no_arcs = at_bare;
  left_after_ten_calls = ap (λ book. told book (hall ∷ below_hall 1 ∷ below_hall 101 ∷ below_hall 100 ∷ below_hall 3 ∷ [])) all_calls.leaves;
  left_with_an_offer = ap (λ book. told book (hall ∷ below_hall 1 ∷ [])) after_an_offer;
  left_with_a_grant = ap (λ book. told book (hall ∷ below_hall 1 ∷ [])) after_a_collect;
  left_with_a_decline = ap (λ book. told book (hall ∷ below_hall 1 ∷ [])) after_a_decline;
  lowest_arc = at_low;
}
