-- A worked example, as lines and what is written for them, and lines at the edges.
use Rattle.std.specs.Prelude.{ℕ, ◌≡◌, List, [], ◌∷◌, ◌++◌, map, codes, Some, Err}
use Rattle.std.specs.List.{flat_map, zip}
use Rattle.oid.specs.declared.refusal.Refusal.TheVariants.{LeadingZero, FirstArcs}
use Rattle.book.specs.Example.{hall, hall_calls, hall_roll, hall_answers}
use Rattle.book.specs.Runs.{by_call}
use Rattle.request.specs.Refusals.{fault_at}
use Rattle.request.specs.Reading.{call_of, read_line}
use Rattle.request.specs.Answers.{feed, no_line, child_of, roll_bytes, answer_bytes}
use Rattle.request.specs.declared.refusal.LineRefusal.TheVariants.{LineLength, UnknownVerb, WrongFields, NotANumber}
use Rattle.request.specs.declared.refusal.Refusal as code
use Rattle.request.specs.declared.refusal.Refusal.TheVariants.{Line, Identifier}

-- some lines, each ended by a line feed
abbrev pub with_feeds : List (List ℕ) → List ℕ
with_feeds lines = flat_map (λ line. line ++ feed ∷ []) lines

-- the lines of the calls in the book's example
abbrev pub hall_lines : List (List ℕ)
hall_lines =
    codes "grant 1 2.999" ∷ codes "claim 1 2.999 102" ∷ codes "offer 1 2.999 4 7" ∷ codes "accept 7 2.999.1" ∷ codes "grant 7 2.999.1"
    ∷ codes "offer 1 2.999 3 8" ∷ codes "retire 1 2.999.100" ∷ codes "grant 1 2.999" ∷ codes "grant 1 2.999" ∷ codes "roll 1 2.999 0" ∷ []

-- what is written for them, on a page that is long enough for the roll
abbrev pub hall_written : List (List ℕ)
hall_written =
    map (λ line. with_feeds (line ∷ []))
    (codes "ok 2.999.100" ∷ codes "ok 2.999.102" ∷ codes "ok 2.999.1" ∷ codes "ok 2.999.1" ∷ codes "ok 2.999.1.100"
    ∷ codes "no 18 R 8" ∷ codes "ok 2.999.100" ∷ codes "ok 2.999.101" ∷ codes "no 19 R 8" ∷ [])
    ++ with_feeds (codes "ok 2.999" ∷ codes "1 open 7 4" ∷ codes "100 retired" ∷ codes "101 panel" ∷ codes "102 panel" ∷ codes "end" ∷ []) ∷ []

-- the roll on a page with so many bytes
abbrev pub hall_roll_on : ℕ → List ℕ
hall_roll_on page = roll_bytes page hall (map child_of hall_roll)

-- a line that cannot be read
abbrev pub LineGets : List ℕ → code.Refusal → ℕ → Type 0
LineGets line refusal offset = read_line line ≡ Err (fault_at refusal offset)

pub record WorkedLines : Type 0 where
  -- the lines make the calls, and of the calls' answers this is written
  pub calls : map call_of hall_lines ≡ map Some hall_calls
  pub written : map (λ pair. answer_bytes pair.0 4096 (by_call pair.1)) (zip hall_lines hall_answers) ≡ hall_written
  -- a roll on shorter pages: 15 bytes would remain after its second child's line, and then 16 do
  pub roll_of_one : hall_roll_on 47 ≡ with_feeds (codes "ok 2.999" ∷ codes "1 open 7 4" ∷ codes "more 100" ∷ [])
  pub roll_of_two : hall_roll_on 48 ≡ with_feeds (codes "ok 2.999" ∷ codes "1 open 7 4" ∷ codes "100 retired" ∷ codes "more 101" ∷ [])
  -- lines that cannot be read
  pub no_bytes : LineGets [] (Line LineLength) 0
  pub space_first : LineGets (codes " grant 1 2.999") (Line UnknownVerb) 0
  pub one_field : LineGets (codes "grant 1") (Line WrongFields) 0
  pub two_spaces : LineGets (codes "grant 1  2.999") (Line WrongFields) 0
  pub space_last : LineGets (codes "grant 1 2.999 ") (Line WrongFields) 0
  pub no_holder : LineGets (codes "offer 0 2.999 512 0") (Line NotANumber) 6
  pub number_before_identifier : LineGets (codes "claim 1 02.999 x") (Line NotANumber) 15
  pub zero_in_front : LineGets (codes "claim 1 02.999 5") (Identifier LeadingZero) 8
  pub behind_prefix : LineGets (codes "grant 1 urn:oid:1.40") (Identifier FirstArcs) 18
  pub no_is_written : no_line (fault_at (Identifier LeadingZero) 8) ≡ codes "no 2 C 8" ++ feed ∷ []
