-- What the code's Grants mean, and what the calls of Grants answer.
use Rattle.std.specs.Prelude.{ℕ, ◌≡◌, Ok, Err, Result}
use Rattle.oid.specs.Meaning.{arcs_of}
use Rattle.oid.specs.declared.identifier.Identifier.{Identifier}
use Rattle.book.specs.Book.{Book}
use Rattle.book.specs.Rulings.{Answer, refused, named, collected}
use Rattle.book.specs.Changes.{with_entry}
use Rattle.book.specs.Grants.{Grant, spent, answer_spent}
use Rattle.book.specs.declared.event.Event.{Event}
use Rattle.book.specs.declared.refusal.Refusal.{Refusal}
use Rattle.register.specs.declared.grant.Grant as code
use Rattle.register.specs.declared.grant.Unspent.{Unspent}

-- what the code's Grants mean
abbrev pub grant_of : code.Grant → Grant
grant_of grant = record { serial = grant.serial; row = grant.row; holder = grant.holder; quota = grant.quota }

-- what a collect is answered
abbrev pub answer_collected : Result code.Grant Refusal → Answer
answer_collected (Ok grant) = collected grant.holder grant.quota
answer_collected (Err refusal) = refused refusal

-- what a call that spends a Grant is answered
abbrev pub answer_by_grant : Result Identifier Unspent → Answer
answer_by_grant (Ok identifier) = named (arcs_of identifier)
answer_by_grant (Err unspent) = refused unspent.refusal

-- The answer to a call with any Grant is what question 22 comes to, and the Grant's row then has what its entry becomes; after a no the book
-- stays as it was.
pub record Spends (serial : ℕ) (before : Book) (grant : Grant) (event : Event) (answer : Answer) (after : Book) : Type 0 where
  pub answers : answer ≡ answer_spent (spent serial before grant event)
  pub leaves : after ≡ with_entry grant.row (spent serial before grant event) before
