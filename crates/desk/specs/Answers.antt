-- What counter calls are answered, and the book after them.
use Rattle.std.specs.Prelude.{ℕ, List, Ok, Err, Option, Result}
use Rattle.book.specs.Book.{Book}
use Rattle.book.specs.Calls.{accept_grant, decline_grant}
use Rattle.book.specs.Calls as calls
use Rattle.book.specs.Founding.{founding_number}
use Rattle.book.specs.Left.{told_left}
use Rattle.book.specs.Questions.{Rules, answer, after}
use Rattle.book.specs.Rulings.{Answer, refused, named, listed, collected}
use Rattle.book.specs.declared.founding.FoundingRefusal.{FoundingRefusal}
use Rattle.book.specs.declared.refusal.Refusal.{Refusal}
use Rattle.counter.specs.Calls.{Call, collect, accept, decline, terms, left, tells}
use Rattle.counter.specs.declared.no_call.NoCall as counter
use Rattle.register.specs.declared.grant.Terms as register
use Rattle.runs.specs.Hands.{told_terms}
use Rattle.desk.specs.declared.told.Told.{Told}
use Rattle.desk.specs.declared.told.Told.TheVariants.{Granted, Done, Terms, Left, Tells, No, NoCall}

-- the answer to a call of Grants: the terms of the Grant that is given, that it is done, or the refusal
abbrev pub told_of : Answer → Told
told_of (refused refusal) = No refusal
told_of (named identifier) = Done
told_of (listed identifier children) = Done
told_of (collected holder quota) = Granted (record { holder = holder; quota = quota })

-- the terms of the Grant that is out, or the refusal
abbrev pub terms_or_no : Result register.Terms Refusal → Told
terms_or_no (Ok of_grant) = Terms of_grant
terms_or_no (Err refusal) = No refusal

-- what an authority has left, or the refusal
abbrev pub left_or_no : Result ℕ Refusal → Told
left_or_no (Ok rest) = Left rest
left_or_no (Err refusal) = No refusal

-- What is told of what was read, by the rules, at a book, of a register whose founding was refused or was not.
abbrev pub told_at : Rules → Option FoundingRefusal → Book → Result Call counter.NoCall → Told
told_at rules refusal book (Ok (collect taker t)) = told_of (answer rules book (calls.collect taker t))
told_at rules refusal book (Ok (accept t)) = told_of (answer rules book (accept_grant t))
told_at rules refusal book (Ok (decline t)) = told_of (answer rules book (decline_grant t))
told_at rules refusal book (Ok (terms t)) = terms_or_no (told_terms t book)
told_at rules refusal book (Ok (left t)) = left_or_no (told_left t book)
told_at rules refusal book (Ok tells) = Tells (founding_number refusal)
told_at rules refusal book (Err no_call) = NoCall no_call

-- The book after it: the rules' book after a call of Grants, and the same book after anything else.
abbrev pub book_after : Rules → Book → Result Call counter.NoCall → Book
book_after rules book (Ok (collect taker t)) = after rules book (calls.collect taker t)
book_after rules book (Ok (accept t)) = after rules book (accept_grant t)
book_after rules book (Ok (decline t)) = after rules book (decline_grant t)
book_after rules book read = book
