-- What holds of the book, of what was given and of what was declined, in every run from a good founding.
use Rattle.std.proofs.Common.{◌≡◌, ℕ, ◌-◌, ◌≤◌, Bool, true, false, List, ◌∷◌, length, map, Some, None, Option, refl, ap, arith}
use Rattle.std.specs.List.{count_by, list_any, AllByRecursion}
use Rattle.std.proofs.lemmas.Bool.{cond-false}
use Rattle.std.proofs.lemmas.List.{length_push}
use Rattle.oid.specs.Tree.{parent_of}
use Rattle.book.specs.Kinds.{is_open, is_authority}
use Rattle.book.specs.Book.{Entry, Book, same, is_at, found, is_child, children}
use Rattle.book.specs.Left.{counted, used, left}
use Rattle.book.specs.Founding.{Founding, root_entry}
use Rattle.book.specs.Given.{Gift}
use Rattle.book.proofs.Identifiers.{child_true, parent_some}
use Rattle.book.proofs.Rows.{chosen}
use Rattle.book.proofs.Shares.{share}
use Rattle.book.proofs.Changes.{is_declined}
use Rattle.book.proofs.Ruled.{row_gift}
use Rattle.book.proofs.Identified.{Identified}

abbrev pub is_declined_at : Option Entry → Bool
is_declined_at None = false
is_declined_at (Some entry) = is_declined entry.kind

-- the parent stands in the book, and is open; a panel has its holder
pub record HasParent (book : Book) (row : Entry) : Type 0 where
  pub parent : List ℕ
  pub authority : Entry
  pub is : parent_of row.identifier ≡ Some parent
  pub here : found parent book ≡ Some authority
  pub opened : is_open authority.kind ≡ true
  pub holder : is_authority row.kind ≡ false → row.holder ≡ authority.holder

-- where the parent is still found as it was
pub parent_again : {book after : Book} {row : Entry} (p : HasParent book row) → found p.parent after ≡ Some p.authority → HasParent after row
parent_again p here = record { parent = p.parent; authority = p.authority; is = p.is; here = here; opened = p.opened; holder = p.holder }

pub record Sound (founding : Founding) (book : Book) (given : List Gift) (declined : List (List ℕ)) : Type 0 where
  -- the root stands first
  pub rest : List Entry
  pub is : book ≡ root_entry founding ∷ rest
  -- no two rows have one identifier
  pub apart : (identifier : List ℕ) → count_by (is_at identifier) book ≤ 1
  -- each has an identifier, with at least as many arcs as the root's
  pub identified : Identified book
  pub long : AllByRecursion (λ row. length founding.root ≤ length row.identifier) book
  pub parents : AllByRecursion (HasParent book) rest
  -- nobody has used up more than the quota
  pub within : (identifier : List ℕ) (entry : Entry) → found identifier book ≡ Some entry → used (children identifier book) ≤ entry.quota
  -- what was given is the rows after the root, in order; and what was declined is what is declined in the book
  pub gave : given ≡ map row_gift rest
  pub ended : (identifier : List ℕ) → list_any (same identifier) declined ≡ is_declined_at (found identifier book)

pub left_is : (authority : Entry) (book : Book) → left authority book ≡ authority.quota - used (children authority.identifier book)
unfolding left
left_is authority book = refl

pub counted_some : (entry : Entry) → 1 ≤ counted entry
counted_some entry = omega arith

-- the root is not the child of what has as many arcs
pub root_takes_nothing : (founding : Founding) (parent : List ℕ) → length founding.root ≤ length parent → share parent (root_entry founding) ≡ 0
root_takes_nothing founding parent long =
    chosen (is_child parent (root_entry founding)) true false _ refl
    (λ child _.
    let more = (parent_some _ parent (child_true parent (root_entry founding) child)).0 in
    absurd (omega (arith, ap length more.is, length_push parent more.arc)))
    (λ other _. cond-false _ _ _ other)
