-- The law over every run.
use Rattle.std.specs.Prelude.{ℕ, ◌+◌, ◌≡◌, ◌≢◌, Bool, true, false, cond, not, List, [], ◌∷◌, ◌++◌, map, filter, find, All, AllPairs, count_by, sum_by, unwrap_or, Some, None, Ok, Option}
use Rattle.std.specs.List.{list_any}
use Rattle.std.specs.Option.{option_or, option_and_then}
use Rattle.oid.specs.Tree.{is_identifier, at_or_below, below}
use Rattle.arc_rules.specs.Sets.{ArcSet}
use Rattle.arc_rules.specs.Laws.{SameArcs}
use Rattle.book.specs.Kinds.{is_authority}
use Rattle.book.specs.Book.{Entry, Book, same, found, SameEntries}
use Rattle.book.specs.Left.{told_left}
use Rattle.book.specs.Free.{in_set}
use Rattle.book.specs.Questions.{Rules}
use Rattle.book.specs.Founding.{Founding, founded}
use Rattle.book.specs.Runs.{Lines, Recovers, Sent, placed, Exchange, Runs, book_at_end}
use Rattle.book.specs.Given.{Gift, gifts, declines}

-- Where a run starts: the rules, a book, and what was given before and stands in it.
pub record Start : Type 0 where
  pub rules : Rules
  pub book : Book
  pub given_before : List Gift

-- a founding, good or refused, is a start; nothing was given before it
abbrev pub at_founding : Founding → Start
at_founding founding = record { rules = founding.rules; book = founded founding; given_before = [] }

-- the starts that there are; the root is an identifier
abbrev pub Begins : Start → Type 0
Begins start = (founding : Founding) × (is_identifier founding.root ≡ true) × (start ≡ at_founding founding)

-- Two starts are alike: the same book, and rules with the same arcs.
pub record Alike (one other : Start) : Type 0 where
  pub book : one.book ≡ other.book
  pub panels : SameArcs one.rules.panels.set other.rules.panels.set
  pub authorities : SameArcs one.rules.authorities.set other.rules.authorities.set

-- Foundings are, whose root, holder and quota are equal and whose rules have the same arcs.
abbrev pub FoundedAlike : Type 0
FoundedAlike = (one other : Founding) → one.root ≡ other.root → one.holder ≡ other.holder → one.quota ≡ other.quota
    → SameArcs one.rules.panels.set other.rules.panels.set → SameArcs one.rules.authorities.set other.rules.authorities.set
    → Alike (at_founding one) (at_founding other)

-- a place is at or below X; what has no place is elsewhere
abbrev pub is_within : List ℕ → Option (List ℕ) → Bool
is_within x None = false
is_within x (Some place) = at_or_below place x

-- the exchanges that are not placed at or below X
abbrev pub elsewhere : Lines → List ℕ → List Exchange → List Exchange
elsewhere lines x run = filter (λ exchange. not (is_within x (placed lines exchange.sent))) run

abbrev pub sent_elsewhere : Lines → List ℕ → List Exchange → List Sent
sent_elsewhere lines x run = map (λ exchange. exchange.sent) (elsewhere lines x run)

-- the entries that are not below X
abbrev pub outside : List ℕ → Book → Book
outside x book = filter (λ entry. not (below entry.identifier x)) book

-- The answers elsewhere are the same, in order; so are the entries that are not below X, and what the register tells that others have left.
pub record SameElsewhere (lines : Lines) (x : List ℕ) (book other : Book) (run others : List Exchange) : Type 0 where
  pub answers : map (λ exchange. exchange.back) (elsewhere lines x run) ≡ map (λ exchange. exchange.back) (elsewhere lines x others)
  pub entries : SameEntries (outside x (book_at_end book run)) (outside x (book_at_end other others))
  pub left : (authority : List ℕ) → at_or_below authority x ≡ false
      → told_left authority (book_at_end book run) ≡ told_left authority (book_at_end other others)

-- the set of the rule for a gift's kind
abbrev pub set_for : Rules → Option ℕ → ArcSet
set_for rules None = rules.panels.set
set_for rules (Some quota) = rules.authorities.set

-- a gift is its giver's identifier with one arc more, and that arc is in the set of the rule for its kind
pub record ByRule (rules : Rules) (gift : Gift) : Type 0 where
  pub arc : ℕ
  pub identifier : gift.identifier ≡ gift.giver ++ arc ∷ []
  pub by_rule : in_set (set_for rules gift.offered) arc ≡ true

-- the quota of an entry; what is no authority has none
abbrev pub quota_in : Entry → Option ℕ
quota_in entry = cond (is_authority entry.kind) (Some entry.quota) None

-- the quota that an authority came with: from the start, or with its offer
abbrev pub quota_of : Start → List Gift → List ℕ → Option ℕ
quota_of start gifts authority =
    option_or (option_and_then quota_in (found authority start.book))
    (option_and_then (λ gift. gift.offered) (find (λ gift. same gift.identifier authority) gifts))

-- how many identifiers an authority gave
abbrev pub count_given : List ℕ → List Gift → ℕ
count_given authority gifts = count_by (λ gift. same gift.giver authority) gifts

-- what a gift still takes from its giver's quota besides the 1: an offer's quota, unless a decline ended it
abbrev pub still_taken : List (List ℕ) → Gift → ℕ
still_taken declined gift = cond (list_any (same gift.identifier) declined) 0 (unwrap_or gift.offered 0)

-- the same of all that an authority gave
abbrev pub sum_taken : List ℕ → List Gift → List (List ℕ) → ℕ
sum_taken authority gifts declined = sum_by (λ gift. cond (same gift.giver authority) (still_taken declined gift) 0) gifts

-- all that was given, before the start and in the run
abbrev pub all_given : Lines → Start → List Exchange → List Gift
all_given lines start run = start.given_before ++ gifts lines run

-- What holds of a run from a start.
pub record Law (lines : Lines) (start : Start) (run : List Exchange) : Type 0 where
  -- For every identifier X, and every second run from a start alike that sent the same calls in the same order, apart from calls placed
  -- at or below X: the other calls got the same answers, the entries not below X are the same, and so is what the register tells of all others.
  pub neighbours_unfelt : (x : List ℕ) → is_identifier x ≡ true
      → (other : Start) → Alike start other → (others : List Exchange) → Runs lines other.rules other.book others
      → sent_elsewhere lines x run ≡ sent_elsewhere lines x others
      → SameElsewhere lines x start.book other.book run others
  -- No identifier was given twice, whatever became of its entry.
  pub given_once : AllPairs (λ one other. one.identifier ≢ other.identifier) (all_given lines start run)
  -- Each identifier that was given is its giver's with one arc more, by the rule for its kind.
  pub given_by_rule : All (ByRule start.rules) (gifts lines run)
  -- The register tells of each authority, that is, of what came with a quota, what it has left.
  pub quotas_told : (authority : List ℕ) (quota : ℕ) → quota_of start (gifts lines run) authority ≡ Some quota
      → (left : ℕ) × (told_left authority (book_at_end start.book run) ≡ Ok left)
  -- And its quota is that, with one for each identifier that it gave, and the quotas of its offers that no decline ended.
  pub quotas_add_up : (authority : List ℕ) (left : ℕ) → told_left authority (book_at_end start.book run) ≡ Ok left
      → quota_of start (gifts lines run) authority
      ≡ Some (left + count_given authority (all_given lines start run) + sum_taken authority (all_given lines start run) (declines lines run))

-- The law: of all ways to read and answer lines by which identifiers are recovered, all starts with any rules, and all runs.
abbrev pub EveryRun : Type 0
EveryRun = (lines : Lines) → Recovers lines → (start : Start) → Begins start
    → (run : List Exchange) → Runs lines start.rules start.book run → Law lines start run
