-- A call touches, by what it enters or changes, only what is directly below its place.
use Rattle.std.proofs.Common.{ℕ, ◌≤◌, List, length, sym, ap, ◌∙◌}
use Rattle.oid.specs.Tree.{below}
use Rattle.book.specs.Book.{Book}
use Rattle.book.specs.Calls.{Call, place_of}
use Rattle.book.specs.Rulings.{Ruling, refuses, enters, turns, tells}
use Rattle.book.specs.Questions.{Rules, ruling}
use Rattle.book.specs.Law.{is_within}
use Rattle.book.proofs.Identifiers.{child_below, below_by_parent}
use Rattle.book.proofs.Ruled.{Says, ruling_says}
use Rattle.book.proofs.Outside.{Touches}

-- What a call enters or changes is below X where its place is at or below X, and only there.
pub touches : (x : List ℕ) → 2 ≤ length x → (rules : Rules) (book : Book) (call : Call)
    → Touches x (is_within x (place_of call)) (ruling rules book call)
touches x long rules book call = go (ruling rules book call) (ruling_says rules book call)
  where
    go : (r : Ruling) → Says rules book call r → Touches x (is_within x (place_of call)) r
    go (refuses refusal) says = tt
    go (enters entry) says =
        ap (λ identifier. below identifier x) says.identifier ∙ child_below says.o x says.arc ∙ sym (ap (is_within x) says.placed)
    go (turns t kind answer) says = below_by_parent t x long ∙ sym (ap (is_within x) says.placed)
    go (tells answer) says = tt
