-- Digits at the front of a page, turned one after the other into the bytes that stand for them.
use Rattle.std.proofs.Common.{◌≡◌, ℕ, ◌+◌, ◌-◌, ◌<◌, List, ◌++◌, map, length, get_or, take, drop, set, sym, ap, ◌∙◌, arith}
use Rattle.std.proofs.Math.ListN.{get_or-append}
use Rattle.std.proofs.Math.Seq.{take-append_seam, drop-append_seam}
use Rattle.std.proofs.lemmas.List.{length-map, length-append, length-take-le, get_or-append_right, get_or-drop, take-append-drop, places}
use Rattle.std.proofs.lemmas.List.Edits.{map_over_more}

-- a page on which the first i of what stood there are turned
abbrev pub Begun : (ℕ → ℕ) → List ℕ → ℕ → List ℕ → Type 0
Begun mark all i page = page ≡ map mark (take i all) ++ drop i all

-- the next digit still stands there
pub next_digit : (mark : ℕ → ℕ) (digits rest page : List ℕ) (i : ℕ) → i < length digits → Begun mark (digits ++ rest) i page → get_or page i 0 ≡ get_or digits i 0
next_digit mark digits rest page i inside is =
    let all = digits ++ rest in
    let front : length (map mark (take i all)) ≡ i = length-map (take i all) mark ∙ length-take-le i all (omega (arith, length-append digits rest)) in
    let here : i + (i - i) ≡ i = omega arith in
    ap (λ l. get_or l i 0) is
    ∙ get_or-append_right (map mark (take i all)) (drop i all) i i 0 front (omega arith)
    ∙ get_or-drop i all (i - i) 0
    ∙ ap (λ k. get_or all k 0) here
    ∙ get_or-append digits rest 0 i inside

-- and is turned
pub digit_more : (mark : ℕ → ℕ) (all page : List ℕ) (i byte : ℕ) → i < length all → Begun mark all i page → byte ≡ mark (get_or page i 0)
    → Begun mark all (i + 1) (set page i byte)
digit_more mark all page i byte inside is turned =
    let long : length page ≡ length all =
    ap length is ∙ length-append (map mark (take i all)) (drop i all)
    ∙ ap (λ n. n + length (drop i all)) (length-map (take i all) mark)
    ∙ sym (length-append (take i all) (drop i all))
    ∙ ap length (take-append-drop i all) in
    ap (λ b. set page i b) turned ∙ map_over_more mark all page i (get_or page i 0) inside is (search (places, long))

-- until all are
pub digits_end : (mark : ℕ → ℕ) (digits rest page : List ℕ) (i : ℕ) → i ≡ length digits → Begun mark (digits ++ rest) i page → page ≡ map mark digits ++ rest
digits_end mark digits rest page i end is =
    is ∙ (λ k. map mark (take (end k) (digits ++ rest)) ++ drop (end k) (digits ++ rest))
    ∙ (λ k. map mark (take-append_seam digits rest k) ++ drop-append_seam digits rest k)
