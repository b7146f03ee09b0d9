-- A worked example, as calls and their answers.
use Rattle.std.specs.Prelude.{ℕ, ◌≡◌, List, [], ◌∷◌, ◌++◌, Ok}
use Rattle.arc_rules.specs.Sets.{from_to, among}
use Rattle.book.specs.Book.{Entry}
use Rattle.book.specs.Left.{told_left}
use Rattle.book.specs.Calls.{Call, grant, claim, offer, accept, retire, roll}
use Rattle.book.specs.Rulings.{Answer, refused, named, listed}
use Rattle.book.specs.Questions.{Rules, answers_to, after_all}
use Rattle.book.specs.Founding.{Founding, founded}
use Rattle.book.specs.declared.kind.Kind.TheVariants.{Panel, Retired, Open}
use Rattle.book.specs.declared.refusal.Refusal.TheVariants.{TooLittleLeft, NoArc}

-- 2.999, with the panels 100 to 102 and the authorities 1, 3 and 5
abbrev pub hall : List ℕ
hall = 2 ∷ 999 ∷ []

abbrev pub hall_rules : Rules
hall_rules = record {
  panels = record { set = from_to 100 102 };
  authorities = record { set = among (1 ∷ 3 ∷ 5 ∷ []) };
}

-- founded for the holder 1 with a quota of 10
abbrev pub hall_founding : Founding
hall_founding = record { root = hall; holder = 1; quota = 10; rules = hall_rules }

abbrev pub below_hall : ℕ → List ℕ
below_hall arc = hall ++ arc ∷ []

-- a grant and a claim of panels; an offer of 4 to the holder 7, who accepts it and grants; an offer of 3 for which too little is left;
-- the first panel retired, and its arc not given again, but the next, and then none; and a roll
abbrev pub hall_calls : List Call
hall_calls =
    grant 1 hall ∷ claim 1 hall 102 ∷ offer 1 hall 4 7 ∷ accept 7 (below_hall 1) ∷ grant 7 (below_hall 1)
    ∷ offer 1 hall 3 8 ∷ retire 1 (below_hall 100) ∷ grant 1 hall ∷ grant 1 hall ∷ roll 1 hall 0 ∷ []

abbrev pub hall_panel : ℕ → Entry
hall_panel arc = record { identifier = below_hall arc; kind = Panel; holder = 1; quota = 0 }

-- 1 open with the holder 7 and the quota 4; 100 retired; 101 and 102 panels
abbrev pub hall_roll : List Entry
hall_roll =
    record { identifier = below_hall 1; kind = Open; holder = 7; quota = 4 }
    ∷ record { identifier = below_hall 100; kind = Retired; holder = 1; quota = 0 }
    ∷ hall_panel 101 ∷ hall_panel 102 ∷ []

abbrev pub hall_answers : List Answer
hall_answers =
    named (below_hall 100) ∷ named (below_hall 102) ∷ named (below_hall 1) ∷ named (below_hall 1) ∷ named (below_hall 1 ++ 100 ∷ [])
    ∷ refused TooLittleLeft ∷ named (below_hall 100) ∷ named (below_hall 101) ∷ refused NoArc ∷ listed hall hall_roll ∷ []

-- The calls get these answers, and then 2.999 has 2 left.
pub record WorkedExample : Type 0 where
  pub answers : answers_to hall_rules (founded hall_founding) hall_calls ≡ hall_answers
  pub left : told_left hall (after_all hall_rules (founded hall_founding) hall_calls) ≡ Ok 2
