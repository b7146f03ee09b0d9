-- For the contracts of private functions: what a call is answered that a line makes.
use Rattle.std.specs.Prelude.{ℕ, Bool, true, false, List, map, Ok, Err, Result}
use Rattle.oid.specs.Meaning.{arcs_of}
use Rattle.book.specs.Book.{Book, Entry, children}
use Rattle.book.specs.Order.{in_order, from_arc}
use Rattle.book.specs.Rulings.{Answer, refused, named, listed}
use Rattle.book.specs.declared.refusal.Refusal as book
use Rattle.request.specs.Answers.{ok_line, no_line, roll_bytes, child_of}
use Rattle.request.specs.declared.refusal.Fault.{Fault}
use Rattle.register.specs.declared.yes.Yes.{Yes}
use Rattle.register.specs.declared.yes.Yes.TheVariants.{Named, Listed}

-- what a roll of an authority lists
abbrev pub shown : Book → List ℕ → ℕ → List Entry
shown book o from = from_arc from (in_order (children o book))

-- what a call is answered that a line makes
abbrev pub answer_yes : Book → Result Yes book.Refusal → Answer
answer_yes book (Ok (Named identifier)) = named (arcs_of identifier)
answer_yes book (Ok (Listed authority from)) = listed (arcs_of authority) (shown book (arcs_of authority) from)
answer_yes book (Err refusal) = refused refusal

-- what is written of that, on a page of some length
abbrev pub bytes_yes : Book → ℕ → Result Yes Fault → List ℕ
bytes_yes book page_length (Ok (Named identifier)) = ok_line (arcs_of identifier)
bytes_yes book page_length (Ok (Listed authority from)) = roll_bytes page_length (arcs_of authority) (map child_of (shown book (arcs_of authority) from))
bytes_yes book page_length (Err fault) = no_line fault

-- it is no roll's yes
abbrev pub is_one_line : Result Yes Fault → Bool
is_one_line (Ok (Listed authority from)) = false
is_one_line answer = true
