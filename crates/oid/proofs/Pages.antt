-- Laws of bytes that are put into a page.
use Rattle.std.proofs.Common.{◌≡◌, ℕ, ◌+◌, ◌-◌, ◌≤◌, Bool, true, false, cond, List, [], ◌++◌, length, take, drop, Ok, Err, sym, refl, ap, ◌∙◌, append_assoc, arith}
use Rattle.std.specs.List.{between}
use borrow.Rule.Slice.PartMut.{put_mid}
use Rattle.std.proofs.lemmas.List.{length-append, length-drop, length-take-le, take-append-drop, take_at, drop_at, drop-drop, drop_all, take_rest, append-nil}
use Rattle.std.proofs.lemmas.Bool.{leb-true, cond-true}
use Rattle.oid.specs.Pages.{placed, at_front, fits, new_end, page_after}
use Rattle.oid.specs.declared.refusal.Refusal.TheVariants.{PageTooShort}

pub placed_none : (place : ℕ) (page : List ℕ) → placed place [] page ≡ page
unfolding placed
placed_none place page =
    let at : place + 0 ≡ place = omega arith in
    ap (λ n. take place page ++ drop n page) at ∙ take-append-drop place page

-- one piece behind the other is both at once
pub placed_both : (place : ℕ) (front back page : List ℕ) → place + length front ≤ length page
    → placed (place + length front) back (placed place front page) ≡ placed place (front ++ back) page
unfolding placed
placed_both place front back page h =
    let before = take place page in
    let rest = drop (place + length front) page in
    let once : before ++ (front ++ rest) ≡ (before ++ front) ++ rest = sym (append_assoc before front rest) in
    let long : length (before ++ front) ≡ place + length front =
    length-append before front ∙ ap (λ n. n + length front) (length-take-le place page (omega arith)) in
    let head : take (place + length front) (before ++ (front ++ rest)) ≡ before ++ front =
    ap (take (place + length front)) once ∙ take_at (before ++ front) rest _ long in
    let tail : drop (place + length front) (before ++ (front ++ rest)) ≡ rest =
    ap (drop (place + length front)) once ∙ drop_at (before ++ front) rest _ long in
    let sum : place + length front + length back ≡ place + length (front ++ back) = omega (arith, length-append front back) in
    let left : drop (place + length front + length back) (before ++ (front ++ rest)) ≡ drop (place + length (front ++ back)) page =
    sym (drop-drop (length back) (place + length front) _) ∙ ap (drop (length back)) tail
    ∙ drop-drop (length back) (place + length front) page ∙ ap (λ n. drop n page) sum in
    (λ k. head k ++ (back ++ left k)) ∙ append_assoc before front _ ∙ ap (λ l. before ++ l) (sym (append_assoc front back _))

-- what the loan of the page's tail leaves, where the bytes went to its front
pub placed_lent : (place : ℕ) (bytes page tail : List ℕ) → place ≤ length page
    → tail ≡ bytes ++ drop (length bytes) (take (length page - place) (drop place page))
    → put_mid place (length page - place) page tail ≡ placed place bytes page
unfolding placed
placed_lent place bytes page tail h e =
    let whole = take_rest page place in
    let none : drop (length page - place) (drop place page) ≡ [] =
    drop_all (length page - place) (drop place page) (omega (arith, length-drop place page)) in
    let behind : drop (length bytes) (take (length page - place) (drop place page)) ≡ drop (place + length bytes) page =
    ap (drop (length bytes)) whole ∙ drop-drop (length bytes) place page in
    ap (λ l. take place page ++ (tail ++ l)) none
    ∙ ap (λ l. take place page ++ l) (append-nil tail ∙ e ∙ ap (λ l. bytes ++ l) behind)

-- the bytes stand where they were put
pub between_placed : (place : ℕ) (bytes page : List ℕ) → place + length bytes ≤ length page
    → between place (place + length bytes) (placed place bytes page) ≡ bytes
unfolding placed
between_placed place bytes page h =
    let before = length-take-le place page (omega arith) in
    let many : place + length bytes - place ≡ length bytes = omega arith in
    let behind = drop (place + length bytes) page in
    (λ k. take (many k) (drop_at (take place page) (bytes ++ behind) place before k)) ∙ take_at bytes behind (length bytes) refl

-- what a writer that began at the page's front has written, as the checker sees `&page[0..end]`
pub written_front : (bytes page after : List ℕ) (end : ℕ) → Ok end ≡ new_end 0 bytes page → after ≡ page_after 0 bytes page
    → take (end - 0) (drop 0 after) ≡ bytes
written_front bytes page after end told e = go (fits 0 bytes page) refl told e
  where
    go : (v : Bool) → fits 0 bytes page ≡ v → Ok end ≡ cond v (Ok (0 + length bytes)) (Err PageTooShort)
        → after ≡ cond v (placed 0 bytes page) page → take (end - 0) (drop 0 after) ≡ bytes
    go true room h same =
        let ends : end ≡ 0 + length bytes = cc in
        let count : end - 0 ≡ 0 + length bytes - 0 = omega arith in
        (λ k. take (count k) (drop 0 (same k)))
        ∙ between_placed 0 bytes page (leb-true (0 + length bytes) (length page) room)
    go false room h same = let z : ◌≡◌ {A = ℕ} 0 1 = cc in absurd (omega arith)

-- a page whose tail was lent, where there was room for the bytes that went to its front
module _ (place : ℕ) (bytes page tail : List ℕ) (room : fits place bytes page ≡ true) (lent : tail ≡ at_front bytes (take (length page - place) (drop place page))) where
  enough : place + length bytes ≤ length page
  enough = leb-true (place + length bytes) (length page) room

  pub lent_after : put_mid place (length page - place) page tail ≡ page_after place bytes page
  lent_after = placed_lent place bytes page tail (omega (arith, enough)) lent ∙ sym (cond-true (fits place bytes page) _ _ room)

  pub lent_between : (count : ℕ) → count ≡ length bytes
      → between place (place + count) (put_mid place (length page - place) page tail) ≡ bytes
  lent_between count counted =
      (λ k. between place (place + counted k) (placed_lent place bytes page tail (omega (arith, enough)) lent k))
      ∙ between_placed place bytes page enough
