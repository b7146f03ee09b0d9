-- The questions that the code asks one after the other.
use Rattle.std.proofs.Common.{◌≡◌, ℕ, Bool, true, false, List, [], find, Some, None, Option, refl, sym, ap, ◌∙◌}
use Rattle.std.specs.Option.{ForSome}
use Rattle.book.specs.Book.{Entry, Book, is_at, found}
use Rattle.book.specs.declared.founding.FoundingRefusal.{FoundingRefusal}
use Rattle.register.specs.Kept.{book_in}
use Rattle.register.specs.Registers.{Follows}
use Rattle.register.specs.declared.row.Row.{Row}
use Rattle.book.specs.Rulings.{Answer, refused, Ruling, refuses, ask, there_is, answer_of, book_after}
use Rattle.book.specs.declared.refusal.Refusal.{Refusal}

pub asked_yes : (refusal : Refusal) (holds : Bool) (others : Ruling) → holds ≡ true → ask refusal holds others ≡ others
unfolding ask
asked_yes refusal true others is = refl
asked_yes refusal false others is = cc

pub asked_no : (refusal : Refusal) (holds : Bool) (others : Ruling) → holds ≡ false → ask refusal holds others ≡ refuses refusal
unfolding ask
asked_no refusal true others is = cc
asked_no refusal false others is = refl

pub something : {A : Type 0} (refusal : Refusal) (thing : Option A) (found : A) (others : A → Ruling) → thing ≡ Some found
    → there_is refusal thing others ≡ others found
unfolding there_is
something refusal thing found others is = ap (λ there. there_is refusal there others) is

pub nothing : {A : Type 0} (refusal : Refusal) (thing : Option A) (others : A → Ruling) → thing ≡ None → there_is refusal thing others ≡ refuses refusal
unfolding there_is
nothing refusal thing others is = ap (λ there. there_is refusal there others) is

-- where something is found in the book, the founding was not refused
pub never_refused : (refused : Option FoundingRefusal) (rows : List Row) (o : List ℕ) (entry : Entry) → ForSome refused (λ _. rows ≡ [])
    → found o (book_in rows) ≡ Some entry → refused ≡ None
unfolding found
never_refused None rows o entry emptied there = refl
never_refused (Some refusal) rows o entry emptied there =
    let none : None ≡ Some entry = ap (λ rows. find (is_at o) (book_in rows)) (sym (emptied refusal refl)) ∙ there in
    absurd cc

-- what follows a ruling follows one that comes to the same
pub follows_same : (ruling same : Ruling) (before : Book) (answer : Answer) (after : Book) → ruling ≡ same
    → Follows same before answer after → Follows ruling before answer after
follows_same ruling same before answer after is follows =
    record { answers = follows.answers ∙ ap answer_of (sym is); leaves = follows.leaves ∙ ap (λ ruling. book_after ruling before) (sym is) }

-- a refusal leaves the book as it was
pub follows_no : (ruling : Ruling) (before : Book) (refusal : Refusal) → ruling ≡ refuses refusal → Follows ruling before (refused refusal) before
follows_no ruling before refusal is = follows_same ruling (refuses refusal) before (refused refusal) before is (record { answers = refl; leaves = refl })

pub follows_err : (ruling : Ruling) (before : Book) (refusal : Refusal) (answer : Answer) → answer ≡ refused refusal
    → ruling ≡ refuses refusal → Follows ruling before answer before
follows_err ruling before refusal answer is no_more = rw is (follows_no ruling before refusal no_more)

-- and so does what is answered the same
pub follows_answer : (ruling : Ruling) (before : Book) (answer same : Answer) (after : Book) → answer ≡ same
    → Follows ruling before same after → Follows ruling before answer after
follows_answer ruling before answer same after is follows = record { answers = is ∙ follows.answers; leaves = follows.leaves }
