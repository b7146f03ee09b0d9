-- Writing bytes into a page, from a place onwards.
use Rattle.std.specs.Prelude.{ℕ, ◌+◌, Bool, cond, List, ◌++◌, length, take, drop, Ok, Err, Result, nat_le}
use Rattle.oid.specs.declared.refusal.Refusal.{Refusal}
use Rattle.oid.specs.declared.refusal.Refusal.TheVariants.{PageTooShort}

-- the page with the bytes put at a place, and every other byte as it was
unfoldable pub placed : ℕ → List ℕ → List ℕ → List ℕ
placed place bytes page = take place page ++ (bytes ++ drop (place + length bytes) page)

-- the page with the bytes at its front, and every other byte as it was
abbrev pub at_front : List ℕ → List ℕ → List ℕ
at_front bytes page = bytes ++ drop (length bytes) page

-- Is enough of the page left?
abbrev pub fits : ℕ → List ℕ → List ℕ → Bool
fits place bytes page = nat_le (place + length bytes) (length page)

-- what a writer answers: the new end, or that the page is too short
abbrev pub new_end : ℕ → List ℕ → List ℕ → Result ℕ Refusal
new_end place bytes page = cond (fits place bytes page) (Ok (place + length bytes)) (Err PageTooShort)

-- the page after it: with the bytes, or untouched
abbrev pub page_after : ℕ → List ℕ → List ℕ → List ℕ
page_after place bytes page = cond (fits place bytes page) (placed place bytes page) page
