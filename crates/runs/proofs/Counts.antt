-- How many Grants can be out: no more than the book has entries, and none at first.
use Rattle.std.proofs.Common.{◌≡◌, ℕ, ◌<◌, ◌≤◌, Bool, true, false, cond, List, [], length, Some, None, Option, refl, sym, ap, ◌∙◌, arith}
use Rattle.std.specs.List.{count_by}
use Rattle.std.proofs.lemmas.List.Sums.{count_by-le-length}
use Rattle.book.specs.Book.{Book, is_at, found}
use Rattle.book.specs.Calls.{collect}
use Rattle.book.specs.Rulings.{collected}
use Rattle.book.specs.Questions.{Rules, answer, after}
use Rattle.book.specs.Founding.{Founding, founding_refusal, root_entry, book_unless, founded}
use Rattle.book.specs.declared.founding.FoundingRefusal.{FoundingRefusal}
use Rattle.book.proofs.GrantRows.{length_turned}
use Rattle.runs.specs.Hands.{Held, in_hand, found_in_hand, is_in_hand, flag, Hands}
use Rattle.runs.proofs.Ruled.{collects}
use Rattle.runs.proofs.Keeping.{collect_moves}
use Rattle.runs.proofs.Spending.{none_in_hand}

pub few : (serial : ℕ) (book : Book) (held : List Held) → Hands serial book held → length held ≤ length book
few serial book held hands = omega (arith, hands.as_many, count_by-le-length in_hand book)

-- a collect that passes finds an entry that is not in hand, so fewer are out than the book has entries
pub fewer : (rules : Rules) (serial : ℕ) (book : Book) (held : List Held) (taker : ℕ) (t : List ℕ) (holder quota : ℕ)
    → answer rules book (collect taker t) ≡ collected holder quota → Hands serial book held → length held < length book
fewer rules serial book held taker t holder quota e hands =
    let later = after rules book (collect taker t) in
    let it = collects rules book taker t holder quota e in
    let moves = collect_moves rules book taker t holder quota e in
    let long = ap length it.leaves ∙ length_turned t it.kind book in
    omega (arith, hands.as_many, moves.count, count_by-le-length in_hand later, long)

-- where none is out, nothing is in hand
pub none_out : (serial : ℕ) (book : Book) → Hands serial book [] → count_by in_hand book ≡ 0
none_out serial book hands = sym hands.as_many

pub none_out_for : (serial : ℕ) (book : Book) (t : List ℕ) → Hands serial book [] → is_in_hand t book ≡ false
none_out_for serial book t hands = none_in_hand serial book [] hands t refl

-- and so it is at a founding
pub founded_hands : (serial : ℕ) (founding : Founding) → Hands serial (founded founding) []
unfolding found
founded_hands serial founding = go (founding_refusal founding)
  where
    root_out : (here : Bool) → 0 ≡ flag (found_in_hand (cond here (Some (root_entry founding)) None))
    root_out true = refl
    root_out false = refl

    go : (refusal : Option FoundingRefusal) → Hands serial (book_unless refusal (root_entry founding)) []
    go None = record { own = refl; each_once = λ t. root_out (is_at t (root_entry founding)); as_many = refl }
    go (Some refusal) = record { own = refl; each_once = λ t. refl; as_many = refl }
