-- Bytes that are put at a page's front, and behind what stands there.
use Rattle.std.proofs.Common.{◌≡◌, ℕ, ◌+◌, ◌-◌, ◌≤◌, List, ◌++◌, length, take, drop, sym, ap, ◌∙◌, arith}
use borrow.Rule.Slice.PartMut.{put_mid}
use Rattle.oid.specs.Pages.{placed, at_front}
use Rattle.oid.proofs.Pages.{placed_both, placed_lent}

pub placed_front : (bytes page : List ℕ) → placed 0 bytes page ≡ at_front bytes page
unfolding placed
placed_front bytes page = let n : 0 + length bytes ≡ length bytes = omega arith in ap (λ n. bytes ++ drop n page) n

-- more behind them
pub front_more : (front back page : List ℕ) → length front ≤ length page
    → placed (length front) back (at_front front page) ≡ at_front (front ++ back) page
front_more front back page room =
    let n : length front ≡ 0 + length front = omega arith in
    (λ k. placed (n k) back (sym (placed_front front page) k)) ∙ placed_both 0 front back page (omega arith) ∙ placed_front (front ++ back) page

-- bytes that went to the front of the page's lent tail, and more behind them
pub lent_more : (place : ℕ) (front back page tail : List ℕ) → place + length front ≤ length page
    → tail ≡ at_front front (take (length page - place) (drop place page))
    → placed (place + length front) back (put_mid place (length page - place) page tail) ≡ placed place (front ++ back) page
lent_more place front back page tail room is =
    ap (placed (place + length front) back) (placed_lent place front page tail (omega arith) is) ∙ placed_both place front back page room
