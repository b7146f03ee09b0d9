-- Answers, and rulings: what the questions come to, from which the answer and the book after follow.
use Rattle.std.specs.Prelude.{ℕ, Bool, cond, List, [], ◌∷◌, ◌++◌, Some, None, Option}
use Rattle.book.specs.Book.{Entry, Book, is_at}
use Rattle.book.specs.declared.kind.Kind.{Kind}
use Rattle.book.specs.declared.refusal.Refusal.{Refusal}

-- the answers to calls
pub data Answer : Type 0 where
  -- a no
  refused : Refusal → Answer
  -- a yes, with the identifier that is new, or that the call named
  named : List ℕ → Answer
  -- a roll's yes, with O and the children that are listed
  listed : List ℕ → List Entry → Answer
  -- a collect's yes, with the Grant's holder and quota
  collected : ℕ → ℕ → Answer

-- What the questions come to: a refusal; an entry that is entered; an entry that gets another kind, with the answer; or an answer alone.
pub data Ruling : Type 0 where
  refuses : Refusal → Ruling
  enters : Entry → Ruling
  turns : List ℕ → Kind → Answer → Ruling
  tells : Answer → Ruling

abbrev pub answer_of : Ruling → Answer
answer_of (refuses refusal) = refused refusal
answer_of (enters entry) = named entry.identifier
answer_of (turns t kind answer) = answer
answer_of (tells answer) = answer

-- the book with the kind of one entry changed
unfoldable pub turned : List ℕ → Kind → Book → Book
turned t kind [] = []
turned t kind (entry ∷ entries) = cond (is_at t entry) (record entry { kind = kind } ∷ entries) (entry ∷ turned t kind entries)

-- A refusal leaves the book as it was. No ruling removes an entry.
abbrev pub book_after : Ruling → Book → Book
book_after (refuses refusal) book = book
book_after (enters entry) book = book ++ entry ∷ []
book_after (turns t kind answer) book = turned t kind book
book_after (tells answer) book = book

-- a question: after a yes come the others, and a no ends with its refusal
unfoldable pub ask : Refusal → Bool → Ruling → Ruling
ask refusal holds others = cond holds others (refuses refusal)

-- a question whether there is something, which the others are then about
unfoldable pub there_is : {A : Type 0} → Refusal → Option A → (A → Ruling) → Ruling
there_is refusal None others = refuses refusal
there_is refusal (Some thing) others = others thing
