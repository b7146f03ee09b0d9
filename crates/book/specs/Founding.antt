-- How a register is founded.
use Rattle.std.specs.Prelude.{ℕ, cond, List, [], ◌∷◌, Some, None, Option}
use Rattle.book.specs.Book.{Entry, Book}
use Rattle.book.specs.Questions.{Rules}
use Rattle.book.specs.Ranges.{is_holder, is_quota}
use Rattle.book.specs.declared.kind.Kind.TheVariants.{Open}
use Rattle.book.specs.declared.founding.FoundingRefusal.{FoundingRefusal}
use Rattle.book.specs.declared.founding.FoundingRefusal.TheVariants.{QuotaTooLarge, NoHolder}

-- What a register is founded with. It has a serial besides, which matters to Grants alone, and stands there.
pub record Founding : Type 0 where
  pub root : List ℕ
  pub holder : ℕ
  pub quota : ℕ
  pub rules : Rules

-- 23. Is the quota at most 511? 24. Is the holder from 1 to 65,535?
abbrev pub founding_refusal : Founding → Option FoundingRefusal
founding_refusal founding =
    cond (is_quota founding.quota)
    (cond (is_holder founding.holder) None (Some NoHolder))
    (Some QuotaTooLarge)

-- The root is open. A register that was refused is empty.
abbrev pub root_entry : Founding → Entry
root_entry founding = record { identifier = founding.root; kind = Open; holder = founding.holder; quota = founding.quota }

abbrev pub book_unless : Option FoundingRefusal → Entry → Book
book_unless None root = root ∷ []
book_unless (Some refusal) root = []

abbrev pub founded : Founding → Book
founded founding = book_unless (founding_refusal founding) (root_entry founding)

-- the number that a refusal of a founding is told by
abbrev pub founding_number_of : FoundingRefusal → ℕ
founding_number_of QuotaTooLarge = 23
founding_number_of NoHolder = 24

-- the number that a register tells of its founding, 0 for a good one
abbrev pub founding_number : Option FoundingRefusal → ℕ
founding_number None = 0
founding_number (Some refusal) = founding_number_of refusal
