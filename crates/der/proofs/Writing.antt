-- What stands in a page that is written to byte by byte, or of which a part was lent to a writer.
use Rattle.std.proofs.Common.{◌≡◌, ℕ, ◌+◌, ◌-◌, ◌<◌, ◌≤◌, List, [], ◌∷◌, ◌++◌, length, get_or, take, drop, set, sym, ap, ◌∙◌, append_assoc, arith}
use borrow.Rule.Slice.PartMut.{put_mid}
use Rattle.std.proofs.lemmas.List.{take_more_set, take_more, drop-set-lt, drop-drop, length-append, length-take-le, take_at, drop_at}
use Rattle.oid.specs.Pages.{placed}
use Rattle.oid.proofs.Pages.{placed_lent}
use Rattle.der.specs.Header.{tag}

-- one byte more of some bytes is written to the page
pub page_more : (page before bytes : List ℕ) (at byte : ℕ) → at < length page → at < length bytes → byte ≡ get_or bytes at 0
    → take at page ≡ take at bytes → drop at page ≡ drop at before
    → (take (at + 1) (set page at byte) ≡ take (at + 1) bytes) × (drop (at + 1) (set page at byte) ≡ drop (at + 1) before)
page_more page before bytes at byte room inside is written same =
    let further : drop (at + 1) page ≡ drop (at + 1) before = sym (drop-drop 1 at page) ∙ ap (drop 1) same ∙ drop-drop 1 at before in
    (take_more_set page at byte room ∙ (λ k. written k ++ (is k ∷ [])) ∙ sym (take_more bytes at 0 inside), drop-set-lt (at + 1) page at byte (omega arith) ∙ further)

-- what a page has after some bytes more were put behind those that stood in it up to a place
pub record Longer (place : ℕ) (bytes before after : List ℕ) (end : ℕ) : Type 0 where
  pub within : end ≤ length after
  pub front : take end after ≡ take place before ++ bytes
  pub behind : drop end after ≡ drop end before

pub lent_more : (place count : ℕ) (bytes page tail : List ℕ) → count ≡ length bytes → place + length bytes ≤ length page
    → tail ≡ bytes ++ drop (length bytes) (take (length page - place) (drop place page))
    → Longer place bytes page (put_mid place (length page - place) page tail) (place + count)
unfolding placed
lent_more place count bytes page tail many room e =
    let front = take place page ++ bytes in
    let rest = drop (place + length bytes) page in
    let whole = placed_lent place bytes page tail (omega arith) e ∙ sym (append_assoc (take place page) bytes rest) in
    let long : length front ≡ place + count = omega (arith, length-append (take place page) bytes, length-take-le place page (omega arith)) in
    record {
      within = omega (arith, ap length whole, length-append front rest);
      front = ap (take (place + count)) whole ∙ take_at front rest _ long;
      behind = ap (drop (place + count)) whole ∙ drop_at front rest _ long ∙ ap (λ n. drop (place + n) page) (sym many);
    }

-- how long the rest is of which the front stands in a page
pub length_left : (end : ℕ) (page rest all : List ℕ) → end ≤ length page → take end page ++ rest ≡ all → end + length rest ≡ length all
length_left end page rest all within e =
    omega (arith, length-append (take end page) rest, length-take-le end page within, ap length e)

-- the header in front of the contents
pub header_more : (bytes page tail : List ℕ) (count : ℕ) → 2 ≤ length page
    → tail ≡ bytes ++ drop (length bytes) (take (length page - 2) (drop 2 page))
    → set (set (put_mid 2 (length page - 2) page tail) 0 tag) 1 count ≡ (tag ∷ (count ∷ bytes)) ++ drop (2 + length bytes) page
unfolding placed
header_more bytes [] tail count h e = absurd (omega arith)
header_more bytes (first ∷ []) tail count h e = absurd (omega arith)
header_more bytes (first ∷ (second ∷ rest)) tail count h e =
    ap (λ l. set (set l 0 tag) 1 count) (placed_lent 2 bytes (first ∷ (second ∷ rest)) tail h e)
