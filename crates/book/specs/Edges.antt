-- A second example: who may call, which kinds are wanted, and which question is put first.
use Rattle.std.specs.Prelude.{ℕ, ◌≡◌, List, [], ◌∷◌, ◌++◌, map, Ok, Err, Result, ⊤}
use Rattle.arc_rules.specs.Sets.{from_to, among}
use Rattle.book.specs.Book.{Book}
use Rattle.book.specs.Left.{told_left}
use Rattle.book.specs.Calls.{Call, grant, claim, offer, accept, decline, retire, roll, collect, accept_grant, decline_grant}
use Rattle.book.specs.Rulings.{Answer, refused, named, listed, collected}
use Rattle.book.specs.Questions.{Rules, answer, after_all}
use Rattle.book.specs.Founding.{Founding, founded}
use Rattle.book.specs.Example.{hall, hall_rules, hall_founding, below_hall, hall_calls, hall_panel, hall_roll}
use Rattle.book.specs.declared.kind.Kind.TheVariants.{Panel, Retired}
use Rattle.book.specs.declared.refusal.Refusal.{Refusal}
use Rattle.book.specs.declared.refusal.Refusal.TheVariants.{NotInBook, WrongKind, NotHolder, TooDeep, TooLittleLeft, NoArc, ArcTaken, NotInHand}

-- each call gets its answer at the one book; no call follows another
abbrev pub GetAnswers : Rules → Book → List (Call × Answer) → Type 0
GetAnswers rules book [] = ⊤
GetAnswers rules book (edge ∷ edges) = (answer rules book edge.0 ≡ edge.1) × GetAnswers rules book edges

-- calls that are refused with one refusal
abbrev pub all_refused : Refusal → List Call → List (Call × Answer)
all_refused refusal calls = map (λ call. (call, refused refusal)) calls

-- The book that the ten calls of the worked example leave: 2.999 has 2 left of 10, and all its panels have been given; 2.999.1 is open,
-- with the holder 7 and 3 left of 4; below it is the panel 2.999.1.100.
abbrev pub hall_book : Book
hall_book = after_all hall_rules (founded hall_founding) hall_calls

abbrev pub panel_of_7 : List ℕ
panel_of_7 = below_hall 1 ++ 100 ∷ []

abbrev pub hall_edges : List (Call × Answer)
hall_edges =
    -- 14: an O and a T that do not stand in the book, whoever calls
    all_refused NotInBook
    (grant 1 (below_hall 3) ∷ claim 1 (below_hall 3) 100 ∷ offer 1 (below_hall 3) 0 8 ∷ roll 1 (below_hall 3) 0
    ∷ accept 1 (below_hall 3) ∷ decline 1 (below_hall 3) ∷ retire 1 (below_hall 3) ∷ collect 1 (below_hall 3) ∷ [])
    -- 15: a panel as O, by its holder
    ++ all_refused WrongKind
    (grant 1 (below_hall 101) ∷ claim 1 (below_hall 101) 100 ∷ offer 1 (below_hall 101) 0 8 ∷ roll 1 (below_hall 101) 0 ∷ [])
    -- 15 before 16: a retired panel as O, and a caller who is not its holder
    ++ all_refused WrongKind
    (grant 9 (below_hall 100) ∷ claim 9 (below_hall 100) 100 ∷ offer 9 (below_hall 100) 0 8 ∷ roll 9 (below_hall 100) 0 ∷ [])
    -- 15: an accept, a decline and a collect of what is open and of panels, retired or not, by the holder
    ++ all_refused WrongKind
    (accept 7 (below_hall 1) ∷ decline 7 (below_hall 1) ∷ collect 7 (below_hall 1)
    ∷ accept 1 (below_hall 101) ∷ decline 1 (below_hall 101) ∷ collect 1 (below_hall 101)
    ∷ accept 1 (below_hall 100) ∷ decline 1 (below_hall 100) ∷ collect 1 (below_hall 100) ∷ [])
    -- 15 before 16: the same by another
    ++ all_refused WrongKind
    (accept 9 (below_hall 1) ∷ decline 9 (below_hall 1) ∷ collect 9 (below_hall 1)
    ∷ accept 9 (below_hall 101) ∷ decline 9 (below_hall 101) ∷ collect 9 (below_hall 101) ∷ [])
    -- 15: a retire of the root, of an authority and of a retired panel, by the holder, by the parent's holder and by another
    ++ all_refused WrongKind
    (retire 1 hall ∷ retire 7 (below_hall 1) ∷ retire 1 (below_hall 1) ∷ retire 1 (below_hall 100) ∷ retire 9 (below_hall 100) ∷ [])
    -- 16: another than the holder; 16 before 18 to 20: no panel is free at 2.999, too little is left, the arc is not in the set, or taken
    ++ all_refused NotHolder
    (grant 1 (below_hall 1) ∷ claim 1 (below_hall 1) 101 ∷ offer 1 (below_hall 1) 0 8 ∷ roll 1 (below_hall 1) 0 ∷ roll 7 hall 0
    ∷ grant 7 hall ∷ offer 7 hall 10 7 ∷ claim 7 hall 1 ∷ claim 7 hall 100 ∷ [])
    -- 16: a retire by another than the holder of the parent
    ++ all_refused NotHolder (retire 1 panel_of_7 ∷ retire 7 (below_hall 101) ∷ [])
    ++ (retire 7 panel_of_7, named panel_of_7) ∷ (retire 1 (below_hall 101), named (below_hall 101))
    -- 18: exactly one too little for an offer; and just enough
    ∷ all_refused TooLittleLeft (offer 1 hall 2 8 ∷ offer 7 (below_hall 1) 3 8 ∷ [])
    ++ (offer 1 hall 1 8, named (below_hall 3)) ∷ (offer 7 (below_hall 1) 2 8, named (below_hall 1 ++ 1 ∷ []))
    -- 19 before 20: a claim of an arc that an authority has taken, and that is not in the panels' set; the arcs beside the set
    ∷ all_refused NoArc (claim 1 hall 1 ∷ claim 1 hall 99 ∷ claim 1 hall 103 ∷ [])
    -- 20: a claim of an arc that a panel has taken, retired or not; what is taken at one authority is not at another
    ++ all_refused ArcTaken (claim 1 hall 100 ∷ claim 1 hall 101 ∷ claim 7 (below_hall 1) 100 ∷ [])
    ++ (claim 7 (below_hall 1) 101, named (below_hall 1 ++ 101 ∷ []))
    -- 22: what is not in hand, and what does not stand in the book
    ∷ all_refused NotInHand
    (accept_grant hall ∷ decline_grant hall ∷ accept_grant (below_hall 1) ∷ decline_grant (below_hall 1)
    ∷ accept_grant (below_hall 101) ∷ decline_grant (below_hall 101) ∷ accept_grant (below_hall 100) ∷ decline_grant (below_hall 100)
    ∷ accept_grant (below_hall 3) ∷ decline_grant (below_hall 3) ∷ [])
    -- a roll from 1 lists arc 1, a roll from 2 leaves it out, a roll from 102 lists arc 102 alone, and a roll from 103 lists nothing
    ++ (roll 1 hall 1, listed hall hall_roll)
    ∷ (roll 1 hall 2, listed hall (record (hall_panel 100) { kind = Retired } ∷ hall_panel 101 ∷ hall_panel 102 ∷ []))
    ∷ (roll 1 hall 102, listed hall (hall_panel 102 ∷ [])) ∷ (roll 1 hall 103, listed hall [])
    -- a roll of what is below another authority
    ∷ (roll 7 (below_hall 1) 0, listed (below_hall 1) (record { identifier = panel_of_7; kind = Panel; holder = 7; quota = 0 } ∷ []))
    ∷ []

-- From the same founding: an offer of 2 to the holder 8, who has not answered it. 2.999 has 7 left.
abbrev pub offered_book : Book
offered_book = after_all hall_rules (founded hall_founding) (offer 1 hall 2 8 ∷ [])

abbrev pub offered_edges : List (Call × Answer)
offered_edges =
    -- 16: an accept, a decline and a collect by the giver, and by whoever else
    all_refused NotHolder (accept 1 (below_hall 1) ∷ decline 1 (below_hall 1) ∷ collect 1 (below_hall 1)
    ∷ accept 9 (below_hall 1) ∷ decline 9 (below_hall 1) ∷ collect 9 (below_hall 1) ∷ [])
    -- and by the holder whom the offer names
    ++ (accept 8 (below_hall 1), named (below_hall 1)) ∷ (decline 8 (below_hall 1), named (below_hall 1))
    ∷ (collect 8 (below_hall 1), collected 8 2)
    -- 15: a retire by the giver and by the taker; and what is offered gives nothing yet, and lists nothing
    ∷ all_refused WrongKind
    (retire 1 (below_hall 1) ∷ retire 8 (below_hall 1) ∷ grant 8 (below_hall 1) ∷ claim 8 (below_hall 1) 100 ∷ offer 8 (below_hall 1) 0 9
    ∷ roll 8 (below_hall 1) 0 ∷ [])
    -- 22: it is not in hand
    ++ all_refused NotInHand (accept_grant (below_hall 1) ∷ decline_grant (below_hall 1) ∷ [])
    -- 18: its quota is taken; and just enough
    ++ (offer 1 hall 7 9, refused TooLittleLeft) ∷ (offer 1 hall 6 9, named (below_hall 3))
    ∷ []

-- The same, collected by the holder 8.
abbrev pub collected_book : Book
collected_book = after_all hall_rules (founded hall_founding) (offer 1 hall 2 8 ∷ collect 8 (below_hall 1) ∷ [])

abbrev pub collected_edges : List (Call × Answer)
collected_edges =
    -- 15: what is in hand is accepted, declined and collected by no line, it is not retired, and it gives and lists nothing
    all_refused WrongKind
    (accept 8 (below_hall 1) ∷ decline 8 (below_hall 1) ∷ collect 8 (below_hall 1) ∷ accept 1 (below_hall 1) ∷ decline 1 (below_hall 1)
    ∷ collect 1 (below_hall 1) ∷ retire 1 (below_hall 1) ∷ grant 8 (below_hall 1) ∷ claim 8 (below_hall 1) 100
    ∷ offer 8 (below_hall 1) 0 9 ∷ roll 8 (below_hall 1) 0 ∷ [])
    -- a Grant's calls name no caller
    ++ (accept_grant (below_hall 1), named (below_hall 1)) ∷ (decline_grant (below_hall 1), named (below_hall 1))
    -- 18: its quota is taken; and just enough
    ∷ (offer 1 hall 7 9, refused TooLittleLeft) ∷ (offer 1 hall 6 9, named (below_hall 3))
    ∷ []

-- The same offer, declined by the holder 8. 2.999 has 9 left.
abbrev pub declined_book : Book
declined_book = after_all hall_rules (founded hall_founding) (offer 1 hall 2 8 ∷ decline 8 (below_hall 1) ∷ [])

abbrev pub declined_edges : List (Call × Answer)
declined_edges =
    -- 15: what is declined stays so, and gives and lists nothing
    all_refused WrongKind
    (accept 8 (below_hall 1) ∷ decline 8 (below_hall 1) ∷ collect 8 (below_hall 1) ∷ retire 1 (below_hall 1) ∷ grant 8 (below_hall 1)
    ∷ claim 8 (below_hall 1) 100 ∷ offer 8 (below_hall 1) 0 9 ∷ roll 8 (below_hall 1) 0 ∷ [])
    -- 22: it is not in hand
    ++ all_refused NotInHand (accept_grant (below_hall 1) ∷ decline_grant (below_hall 1) ∷ [])
    -- 18: its quota is free again, but not the one for its identifier; its arc is not given again
    ++ (offer 1 hall 9 9, refused TooLittleLeft) ∷ (offer 1 hall 8 9, named (below_hall 3))
    ∷ []

-- a root of sixteen arcs, which has a quota of 0; the holder is 1
abbrev pub deepest : List ℕ
deepest = 2 ∷ 1 ∷ 2 ∷ 3 ∷ 4 ∷ 5 ∷ 6 ∷ 7 ∷ 8 ∷ 9 ∷ 10 ∷ 11 ∷ 12 ∷ 13 ∷ 14 ∷ 15 ∷ []

abbrev pub deepest_founding : Founding
deepest_founding = record { root = deepest; holder = 1; quota = 0; rules = hall_rules }

abbrev pub deepest_edges : List (Call × Answer)
deepest_edges =
    -- 16 before 17, and 17 before 18 and 19
    all_refused NotHolder (grant 2 deepest ∷ claim 2 deepest 100 ∷ offer 2 deepest 0 8 ∷ [])
    ++ all_refused TooDeep (grant 1 deepest ∷ claim 1 deepest 100 ∷ claim 1 deepest 103 ∷ offer 1 deepest 0 8 ∷ [])
    -- 17 is not asked of a roll
    ++ (roll 1 deepest 0, listed deepest [])
    ∷ []

-- a root of fifteen arcs, with a quota of 1
abbrev pub next_deepest : List ℕ
next_deepest = 2 ∷ 1 ∷ 2 ∷ 3 ∷ 4 ∷ 5 ∷ 6 ∷ 7 ∷ 8 ∷ 9 ∷ 10 ∷ 11 ∷ 12 ∷ 13 ∷ 14 ∷ []

abbrev pub next_deepest_founding : Founding
next_deepest_founding = record { root = next_deepest; holder = 1; quota = 1; rules = hall_rules }

abbrev pub next_deepest_edges : List (Call × Answer)
next_deepest_edges =
    -- its children have sixteen arcs
    (grant 1 next_deepest, named (next_deepest ++ 100 ∷ [])) ∷ (claim 1 next_deepest 101, named (next_deepest ++ 101 ∷ []))
    ∷ (offer 1 next_deepest 0 8, named (next_deepest ++ 1 ∷ []))
    -- 14 before 17
    ∷ all_refused NotInBook (grant 1 deepest ∷ claim 1 deepest 100 ∷ offer 1 deepest 0 8 ∷ [])

-- the same after a grant: it has nothing left
abbrev pub deep_panel : List ℕ
deep_panel = next_deepest ++ 100 ∷ []

abbrev pub granted_book : Book
granted_book = after_all hall_rules (founded next_deepest_founding) (grant 1 next_deepest ∷ [])

abbrev pub granted_edges : List (Call × Answer)
granted_edges =
    -- 15 before 17
    all_refused WrongKind (grant 1 deep_panel ∷ claim 1 deep_panel 100 ∷ offer 1 deep_panel 0 8 ∷ [])
    -- 16 before 18, and 18 before 19 and 20
    ++ all_refused NotHolder (grant 9 next_deepest ∷ claim 9 next_deepest 100 ∷ offer 9 next_deepest 0 8 ∷ [])
    ++ all_refused TooLittleLeft
    (grant 1 next_deepest ∷ claim 1 next_deepest 1 ∷ claim 1 next_deepest 100 ∷ offer 1 next_deepest 0 8 ∷ [])

-- 2.999 with a small quota, and with panels from 3 to 2, which are none
abbrev pub bare_rules : Rules
bare_rules = record hall_rules { panels = record { set = from_to 3 2 } }

abbrev pub bare_founding : ℕ → Founding
bare_founding quota = record hall_founding { quota = quota; rules = bare_rules }

abbrev pub spent_edges : List (Call × Answer)
spent_edges =
    -- with a quota of 0: 18 before 19
    all_refused TooLittleLeft (grant 1 hall ∷ claim 1 hall 3 ∷ offer 1 hall 0 8 ∷ [])

abbrev pub bare_edges : List (Call × Answer)
bare_edges =
    -- with a quota of 1: 19 without arcs
    all_refused NoArc (grant 1 hall ∷ claim 1 hall 2 ∷ claim 1 hall 3 ∷ [])
    -- 18: an offer needs one more than its quota
    ++ (offer 1 hall 1 8, refused TooLittleLeft) ∷ (offer 1 hall 0 8, named (below_hall 1))
    ∷ []

-- 2.999 with the holder 7, the panel 0 and the authority 0: arc 0 is an arc like others, and the root has the founding's holder
abbrev pub low_rules : Rules
low_rules = record { panels = record { set = from_to 0 0 }; authorities = record { set = among (0 ∷ []) } }

abbrev pub low_founding : Founding
low_founding = record hall_founding { holder = 7; rules = low_rules }

abbrev pub low_edges : List (Call × Answer)
low_edges =
    (grant 7 hall, named (below_hall 0)) ∷ (claim 7 hall 0, named (below_hall 0)) ∷ (offer 7 hall 0 8, named (below_hall 0))
    ∷ (grant 1 hall, refused NotHolder) ∷ []

-- what the register tells that these have left, or why it does not
abbrev pub told : Book → List (List ℕ) → List (Result ℕ Refusal)
told book identifiers = map (λ identifier. told_left identifier book) identifiers

-- The calls get these answers, and the register tells this of what authorities have left.
pub record EdgeAnswers : Type 0 where
  pub after_ten_calls : GetAnswers hall_rules hall_book hall_edges
  pub with_an_offer : GetAnswers hall_rules offered_book offered_edges
  pub with_a_grant : GetAnswers hall_rules collected_book collected_edges
  pub with_a_decline : GetAnswers hall_rules declined_book declined_edges
  pub deepest : GetAnswers hall_rules (founded deepest_founding) deepest_edges
  pub next_deepest : GetAnswers hall_rules (founded next_deepest_founding) next_deepest_edges
  pub granted : GetAnswers hall_rules granted_book granted_edges
  pub nothing_left : GetAnswers bare_rules (founded (bare_founding 0)) spent_edges
  pub no_arcs : GetAnswers bare_rules (founded (bare_founding 1)) bare_edges
  pub lowest_arc : GetAnswers low_rules (founded low_founding) low_edges
  -- after the ten calls: the root, the authority below it, panels, retired or not, and what does not stand in the book
  pub left_after_ten_calls : told hall_book (hall ∷ below_hall 1 ∷ below_hall 101 ∷ below_hall 100 ∷ below_hall 3 ∷ [])
      ≡ Ok 2 ∷ Ok 3 ∷ Err WrongKind ∷ Err WrongKind ∷ Err NotInBook ∷ []
  -- the giver, and what is offered, in hand or declined: it gives nothing, and has all of its quota left
  pub left_with_an_offer : told offered_book (hall ∷ below_hall 1 ∷ []) ≡ Ok 7 ∷ Ok 2 ∷ []
  pub left_with_a_grant : told collected_book (hall ∷ below_hall 1 ∷ []) ≡ Ok 7 ∷ Ok 2 ∷ []
  pub left_with_a_decline : told declined_book (hall ∷ below_hall 1 ∷ []) ≡ Ok 9 ∷ Ok 2 ∷ []
