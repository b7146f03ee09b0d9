-- Runs and calls: a run leaves what its calls leave, there is one run for whatever is sent, and there are ways to read and answer lines.
use Rattle.std.proofs.Common.{◌≡◌, ℕ, true, List, [], ◌∷◌, map, Some, None, Option, refl, ap, ◌∙◌, subst}
use Rattle.std.specs.List.{cons_option, slice_get}
use Rattle.book.specs.Book.{Book}
use Rattle.book.specs.Calls.{Call}
use Rattle.book.specs.Questions.{Rules, after_all}
use Rattle.book.specs.Runs.{Sent, identifier_in, Lines, made_by, back_at, after_made, Exchange, Serves, Runs}
use Rattle.book.specs.Beneath.{calls_in, RunsAreCalls, OneRun, SomeLines}

-- a call that was made, or none, before others
made_first : (rules : Rules) (book : Book) (made : Option Call) (calls : List Call)
    → after_all rules (after_made rules book made) calls ≡ after_all rules book (cons_option made calls)
made_first rules book None calls = refl
made_first rules book (Some call) calls = refl

pub runs_are_calls : RunsAreCalls
runs_are_calls lines rules book [] runs = refl
runs_are_calls lines rules book (exchange ∷ run) runs =
    runs_are_calls lines rules exchange.book run runs.1
    ∙ ap (λ left. after_all rules left (calls_in lines run)) runs.0.leaves
    ∙ made_first rules book (made_by lines exchange.sent) (calls_in lines run)

-- the exchange that is served when something is sent
abbrev served : Lines → Rules → Book → Sent → Exchange
served lines rules book sent =
    record { sent = sent; back = back_at lines rules book sent; book = after_made rules book (made_by lines sent) }

-- and it is the only one
only_served : (lines : Lines) (rules : Rules) (book : Book) (exchange : Exchange) → Serves lines rules book exchange
    → exchange ≡ served lines rules book exchange.sent
only_served lines rules book exchange serves i = record { sent = exchange.sent; back = serves.answered i; book = serves.leaves i }

pub one_run : OneRun
one_run lines rules book [] = ([], tt, refl, only)
  where
    only : (other : List Exchange) → Runs lines rules book other → map (λ exchange. exchange.sent) other ≡ [] → other ≡ []
    only [] runs is = refl
    only (exchange ∷ other) runs is = absurd (cc)
one_run lines rules book (sent ∷ more) =
    let first = served lines rules book sent in
    let rest = one_run lines rules first.book more in (
      first ∷ rest.0,
      (record { answered = refl; leaves = refl }, rest.1),
      ap (λ sent_later. sent ∷ sent_later) rest.2,
      only rest.0 rest.3,
    )
  where
    only : (run : List Exchange)
        → ((other : List Exchange) → Runs lines rules (served lines rules book sent).book other
        → map (λ exchange. exchange.sent) other ≡ more → other ≡ run)
        → (other : List Exchange) → Runs lines rules book other → map (λ exchange. exchange.sent) other ≡ sent ∷ more
        → other ≡ served lines rules book sent ∷ run
    only run later [] runs is = absurd (cc)
    only run later (exchange ∷ other) runs is =
        let sent_is : exchange.sent ≡ sent = cc in
        let more_is : map (λ exchange. exchange.sent) other ≡ more = cc in
        let here = only_served lines rules book exchange runs.0 ∙ ap (served lines rules book) sent_is in
        let there = later other (subst (λ left. Runs lines rules left other) (ap (λ exchange. exchange.book) here) runs.1) more_is in
        (λ i. here i ∷ there i)

-- a line by the number of its call; and an answer as nothing, or as the arcs of its identifier behind a mark
numbered : List Call → List ℕ → Option Call
numbered calls [] = None
numbered calls (number ∷ []) = slice_get calls number
numbered calls (number ∷ other ∷ bytes) = None

marked : Option (List ℕ) → List ℕ
marked None = []
marked (Some identifier) = 1 ∷ identifier

unmarked : List ℕ → Option (List ℕ)
unmarked [] = None
unmarked (mark ∷ identifier) = Some identifier

unmarked_is : (identifier : Option (List ℕ)) → unmarked (marked identifier) ≡ identifier
unfolding marked unmarked
unmarked_is None = refl
unmarked_is (Some identifier) = refl

pub some_lines : SomeLines
unfolding numbered
some_lines calls = (
  record {
    call_of = numbered calls;
    has_room = λ _. true;
    bytes_of = λ _ _ answer. marked (identifier_in answer);
    recover = unmarked;
  },
  λ _ _ answer _ _. unmarked_is (identifier_in answer),
  λ number page. (refl, refl),
)
