-- The worked example, one call after the other.
use Rattle.std.proofs.Common.{◌≡◌, ℕ, ◌^◌, ◌<◌, ◌≤◌, Bool, true, false, List, [], ◌∷◌, ◌++◌, Some, None, nat_le, nat_lt, refl, sym, ap, arith}
use Rattle.std.proofs.lemmas.Bool.{le-leb, lt-leb, ltb-true, ltb-false, and_left, and_right, agree_below, agree_below_at}
use Rattle.oid.specs.Arcs.{arc_limit}
use Rattle.oid.proofs.Arcs.{limit_width}
use Rattle.arc_rules.specs.Sets.{ArcSet, no_arc, from_to}
use Rattle.arc_rules.specs.Lowest.{lowest_from}
use Rattle.arc_rules.proofs.Theorems.{only_lowest}
use Rattle.book.specs.declared.kind.Kind.{Kind}
use Rattle.book.specs.declared.kind.Kind.TheVariants.{Panel, Retired, Offered, Open}
use Rattle.book.specs.declared.refusal.Refusal.TheVariants.{TooLittleLeft, NoArc}
use Rattle.book.specs.Book.{Entry, Book, found, children, is_taken}
use Rattle.book.specs.Left.{used, left, told_left}
use Rattle.book.specs.Free.{untaken}
use Rattle.book.specs.Order.{in_order}
use Rattle.book.specs.Calls.{Call, grant, claim, offer, accept, retire, roll}
use Rattle.book.specs.Rulings.{Ruling, refuses, enters, turns, tells, Answer, named, listed, turned, answer_of, book_after, ask, there_is}
use Rattle.book.specs.Questions.{ruling, answers_to, after_all}
use Rattle.book.specs.Founding.{root_entry, founded}
use Rattle.book.specs.Example.{hall, hall_rules, hall_founding, below_hall, hall_calls, hall_panel, hall_roll, hall_answers, WorkedExample}

-- The root, the offer to the holder 7, whose kind is changed, the panel below it, and the panel that is retired.
abbrev root : Entry
root = root_entry hall_founding

abbrev offered : Kind → Entry
offered kind = record { identifier = below_hall 1; kind = kind; holder = 7; quota = 4 }

abbrev panel_of_seven : Entry
panel_of_seven = record { identifier = 2 ∷ 999 ∷ 1 ∷ 100 ∷ []; kind = Panel; holder = 7; quota = 0 }

abbrev retired_panel : Entry
retired_panel = record (hall_panel 100) { kind = Retired }

-- The book before each call. The refusals and the roll leave it as it is.
abbrev pub before_first : Book
before_first = root ∷ []

abbrev before_second : Book
before_second = before_first ++ hall_panel 100 ∷ []

abbrev before_third : Book
before_third = before_second ++ hall_panel 102 ∷ []

abbrev before_fourth : Book
before_fourth = before_third ++ offered Offered ∷ []

abbrev before_fifth : Book
before_fifth = before_third ++ offered Open ∷ []

abbrev before_sixth : Book
before_sixth = before_fifth ++ panel_of_seven ∷ []

abbrev before_eighth : Book
before_eighth = root ∷ retired_panel ∷ hall_panel 102 ∷ offered Open ∷ panel_of_seven ∷ []

abbrev pub before_ninth : Book
before_ninth = before_eighth ++ hall_panel 101 ∷ []

-- an arc of a set is the lowest where no number below it is in the set
pub lowest_is : (set : ArcSet) (arc : ℕ) → arc < 2 ^ 32 → set arc ≡ true → agree_below set no_arc arc ≡ true → lowest_from set 0 ≡ Some arc
lowest_is set arc fits here below = sym ((only_lowest set 0 (Some arc)).0 (
  omega arith,
  limit_width arc fits,
  here,
  λ between from to. agree_below_at set no_arc arc between below to,
))

-- and there is none where no number is in the set, be it below some number or not
pub none_in : (set : ArcSet) (past : ℕ) → agree_below set no_arc past ≡ true → ((arc : ℕ) → past ≤ arc → set arc ≡ false)
    → lowest_from set 0 ≡ None
none_in set past below above = sym ((only_lowest set 0 None).0 (λ arc from to. go arc (nat_lt arc past) refl))
  where
    go : (arc : ℕ) (v : Bool) → nat_lt arc past ≡ v → set arc ≡ false
    go arc true is = agree_below_at set no_arc past arc below (ltb-true arc past is)
    go arc false is = above arc (ltb-false arc past is)

-- the panels that an authority may give
abbrev pub free_panels : List ℕ → Book → ArcSet
free_panels o book = untaken hall_rules.panels.set (children o book)

-- What the questions of each call come to, at the book before it.
grants_100 : ruling hall_rules before_first (grant 1 hall) ≡ enters (hall_panel 100)
unfolding found ask there_is children is_taken used left
grants_100 = rw (lowest_is (free_panels hall before_first) 100 (omega arith) refl refl)

claims_102 : ruling hall_rules before_second (claim 1 hall 102) ≡ enters (hall_panel 102)
unfolding found ask there_is children is_taken used left
claims_102 = rw (le-leb 102 arc_limit (limit_width 102 (omega arith)))

offers_1 : ruling hall_rules before_third (offer 1 hall 4 7) ≡ enters (offered Offered)
unfolding found ask there_is children is_taken used left
offers_1 = rw (lowest_is (untaken hall_rules.authorities.set (children hall before_third)) 1 (omega arith) refl refl)

accepts_1 : ruling hall_rules before_fourth (accept 7 (below_hall 1)) ≡ turns (below_hall 1) Open (named (below_hall 1))
unfolding found ask there_is
accepts_1 = refl

grants_below_1 : ruling hall_rules before_fifth (grant 7 (below_hall 1)) ≡ enters panel_of_seven
unfolding found ask there_is children is_taken used left
grants_below_1 = rw (lowest_is (free_panels (below_hall 1) before_fifth) 100 (omega arith) refl refl)

refuses_offer : ruling hall_rules before_sixth (offer 1 hall 3 8) ≡ refuses TooLittleLeft
unfolding found ask there_is children used left
refuses_offer = refl

retires_100 : ruling hall_rules before_sixth (retire 1 (below_hall 100)) ≡ turns (below_hall 100) Retired (named (below_hall 100))
unfolding found ask there_is
retires_100 = refl

grants_101 : ruling hall_rules before_eighth (grant 1 hall) ≡ enters (hall_panel 101)
unfolding found ask there_is children is_taken used left
grants_101 = rw (lowest_is (free_panels hall before_eighth) 101 (omega arith) refl refl)

refuses_grant : ruling hall_rules before_ninth (grant 1 hall) ≡ refuses NoArc
unfolding found ask there_is children is_taken used left
refuses_grant = rw (none_in (free_panels hall before_ninth) 103 refl (λ arc above.
    and_left (from_to 100 102 arc) _ (and_right (nat_le 100 arc) _ (lt-leb arc 102 above))))

lists_children : ruling hall_rules before_ninth (roll 1 hall 0) ≡ tells (listed hall hall_roll)
unfolding found ask there_is children in_order
lists_children = refl

-- the answers to calls at a book, and the book that they leave
pub record Comes (book : Book) (calls : List Call) (told : List Answer) (end : Book) : Type 0 where
  pub answers : answers_to hall_rules book calls ≡ told
  pub leaves : after_all hall_rules book calls ≡ end

-- one call more, before the others, by what its questions come to
one_more : {book : Book} {call : Call} {what : Ruling} {calls : List Call} {told : List Answer} {end : Book} → ruling hall_rules book call ≡ what
    → Comes (book_after what book) calls told end → Comes book (call ∷ calls) (answer_of what ∷ told) end
one_more is rest = record {
  answers = rw (is, rest.answers);
  leaves = rw is rest.leaves;
}

pub all_calls : Comes (founded hall_founding) hall_calls hall_answers before_ninth
unfolding turned
all_calls =
    one_more grants_100 (one_more claims_102 (one_more offers_1 (one_more accepts_1 (one_more grants_below_1
    (one_more refuses_offer (one_more retires_100 (one_more grants_101 (one_more refuses_grant (one_more lists_children
    (record { answers = refl; leaves = refl }))))))))))

pub worked_example : WorkedExample
unfolding found children used left
worked_example = record {
  answers = all_calls.answers;
  left = ap (told_left hall) all_calls.leaves;
}
