-- What is written of a page.
use Rattle.std.specs.Prelude.{ℕ, ◌+◌, ◌≡◌, Bool, true, cond, List, length, take, nat_le, is_ok, Result}
use Rattle.oid.specs.Pages.{placed, fits}
use Rattle.oid.specs.declared.refusal.Refusal.{Refusal}

-- Bytes were put behind the first `before` of a page. Where there was room for all of them, they are there, and counted; else there may
-- be some of them. Nothing before them has changed, and the page is as long as it was.
pub record Puts (bytes : List ℕ) (before : ℕ) (page : List ℕ) (result : Result (Unit {0}) Refusal) (after : ℕ) (page_after : List ℕ) : Type 0 where
  pub answers : is_ok result ≡ fits before bytes page
  pub done : fits before bytes page ≡ true → (after ≡ before + length bytes) × (page_after ≡ placed before bytes page)
  pub before_it : take before page_after ≡ take before page
  pub long : length page_after ≡ length page

-- A whole line was put there, where so many bytes of the page remain after it, and nothing else of the page has changed; or it was not, and
-- then nothing is counted, and nothing has changed of what was written before; the bytes behind that may be any.
pub record PutsLine (bytes : List ℕ) (rest before : ℕ) (page : List ℕ) (done : Bool) (after : ℕ) (page_after : List ℕ) : Type 0 where
  pub answers : done ≡ nat_le (before + length bytes + rest) (length page)
  pub counted : after ≡ cond done (before + length bytes) before
  pub there : done ≡ true → page_after ≡ placed before bytes page
  pub before_it : take before page_after ≡ take before page
  pub long : length page_after ≡ length page
