-- Bytes put behind what is written of a page, one piece after the other.
use Rattle.std.proofs.Common.{◌≡◌, ℕ, ◌+◌, ◌≤◌, Bool, true, false, cond, leb, List, [], ◌∷◌, ◌++◌, length, take, drop, Ok, Err, Result, refl, sym, ap, subst, ◌∙◌, append_assoc, decimal, arith}
use Rattle.std.specs.Result.{is_ok}
use Rattle.std.proofs.lemmas.Bool.{leb-true, leb-false, lt-leb, both_ways}
use Rattle.std.proofs.lemmas.List.{length-append, length-drop, length-take-le, take_at, take-take}
use Rattle.oid.specs.Pages.{placed, fits, new_end, page_after}
use Rattle.oid.specs.declared.refusal.Refusal.{Refusal}
use Rattle.oid.specs.declared.refusal.Refusal.TheVariants.{PageTooShort}
use Rattle.oid.proofs.Pages.{placed_both}
use Rattle.request.specs.Written.{Puts, PutsLine}

-- where a writer ended, or another place where it did not
abbrev end_or : ℕ → Result ℕ Refusal → ℕ
end_or other (Ok end) = end
end_or other (Err refusal) = other

-- what stood before the bytes is there still
pub before_placed : (bytes : List ℕ) (before : ℕ) (page : List ℕ) → before + length bytes ≤ length page
    → take before (placed before bytes page) ≡ take before page
unfolding placed
before_placed bytes before page h =
    take_at (take before page) (bytes ++ drop (before + length bytes) page) before (length-take-le before page (omega (arith, h)))

pub length_placed : (bytes : List ℕ) (before : ℕ) (page : List ℕ) → before + length bytes ≤ length page
    → length (placed before bytes page) ≡ length page
unfolding placed
length_placed bytes before page h =
    omega (arith, h, length-append (take before page) (bytes ++ drop (before + length bytes) page), length-append bytes (drop (before + length bytes) page), length-take-le before page (omega (arith, h)), length-drop (before + length bytes) page)

-- all of them were put
pub put : (bytes : List ℕ) (before : ℕ) (page : List ℕ) → fits before bytes page ≡ true
    → Puts bytes before page (Ok tt) (before + length bytes) (placed before bytes page)
put bytes before page room =
    let h = leb-true (before + length bytes) (length page) room in
    record { answers = sym room; done = λ e. (refl, refl); before_it = before_placed bytes before page h; long = length_placed bytes before page h }

-- none were
pub not_put : (bytes : List ℕ) (before : ℕ) (page : List ℕ) (answer : Result (Unit {0}) Refusal) → fits before bytes page ≡ false → is_ok answer ≡ false
    → Puts bytes before page answer before page
not_put bytes before page answer room is =
    record { answers = is ∙ sym room; done = λ e. absurd (both_ways (fits before bytes page) room e); before_it = refl; long = refl }

-- bytes behind bytes
module _ (front back : List ℕ) (before : ℕ) (page : List ℕ) where
  sum : before + length front + length back ≡ before + length (front ++ back)
  sum = omega (arith, length-append front back)

  pub both : (first : Result (Unit {0}) Refusal) (middle : ℕ) (page_between : List ℕ) (second : Result (Unit {0}) Refusal) (after : ℕ) (page_after : List ℕ)
      → is_ok first ≡ true
      → Puts front before page first middle page_between → Puts back middle page_between second after page_after
      → Puts (front ++ back) before page second after page_after
  both first middle page_between second after page_after put_first one other =
      let room = sym one.answers ∙ put_first in
      let there = one.done room in
      let same : fits middle back page_between ≡ fits before (front ++ back) page =
      (λ k. leb (there.0 k + length back) (one.long k)) ∙ ap (λ n. leb n (length page)) sum in
      let kept : take before page_after ≡ take before page_between =
      sym (take-take before middle page_after (omega (arith, there.0))) ∙ ap (take before) other.before_it ∙ take-take before middle page_between (omega (arith, there.0)) in
      record {
        answers = other.answers ∙ same;
        done = λ e. let h = other.done (same ∙ e) in (h.0 ∙ ap (λ n. n + length back) there.0 ∙ sum, h.1 ∙ (λ k. placed (there.0 k) back (there.1 k)) ∙ placed_both before front back page (leb-true (before + length front) (length page) room));
        before_it = kept ∙ one.before_it;
        long = other.long ∙ one.long;
      }

  -- the first were not put, so the second neither
  pub first_not : (first second : Result (Unit {0}) Refusal) (middle : ℕ) (page_after : List ℕ) → is_ok first ≡ false → is_ok second ≡ false
      → Puts front before page first middle page_after → Puts (front ++ back) before page second middle page_after
  first_not first second middle page_after no_first no_second one =
      let short = leb-false (before + length front) (length page) (sym one.answers ∙ no_first) in
      let long = lt-leb (before + length (front ++ back)) (length page) (omega (arith, short, sum)) in
      record { answers = no_second ∙ sym long; done = λ e. absurd (both_ways (fits before (front ++ back) page) long e); before_it = one.before_it; long = one.long }

-- bytes that a writer wrote, or did not
module _ (bytes : List ℕ) (before : ℕ) (page page_left : List ℕ) (left : page_left ≡ page_after before bytes page) where
  pub wrote : (end : ℕ) → Ok end ≡ new_end before bytes page → Puts bytes before page (Ok tt) end page_left
  wrote end told = go (fits before bytes page) refl told left
    where
      go : (v : Bool) → fits before bytes page ≡ v → Ok end ≡ cond v (Ok (before + length bytes)) (Err PageTooShort) → page_left ≡ cond v (placed before bytes page) page
          → Puts bytes before page (Ok tt) end page_left
      go true room t l = subst {A = ℕ × List ℕ} (λ p. Puts bytes before page (Ok tt) p.0 p.1) (λ k. (end_or 0 (sym t k), sym l k)) (put bytes before page room)
      go false room t l = absurd (both_ways true (ap is_ok t) refl)

  pub wrote_not : (refusal : Refusal) (answer : Result (Unit {0}) Refusal) → Err refusal ≡ new_end before bytes page → is_ok answer ≡ false
      → Puts bytes before page answer before page_left
  wrote_not refusal answer told is = go (fits before bytes page) refl told left
    where
      go : (v : Bool) → fits before bytes page ≡ v → Err refusal ≡ cond v (Ok (before + length bytes)) (Err PageTooShort) → page_left ≡ cond v (placed before bytes page) page
          → Puts bytes before page answer before page_left
      go true room t l = absurd (both_ways true (ap is_ok (sym t)) refl)
      go false room t l = subst (Puts bytes before page answer before) (sym l) (not_put bytes before page answer room is)

-- a word with the byte that ends it, and what is behind that
module _ (word : List ℕ) (end : ℕ) (rest : List ℕ) (before : ℕ) (page : List ℕ) where
  joined : (word ++ end ∷ []) ++ rest ≡ word ++ end ∷ rest
  joined = append_assoc word (end ∷ []) rest

  pub word_then : (first : Result (Unit {0}) Refusal) (middle : ℕ) (page_between : List ℕ) (second : Result (Unit {0}) Refusal) (after : ℕ) (page_after : List ℕ)
      → is_ok first ≡ true
      → Puts (word ++ end ∷ []) before page first middle page_between → Puts rest middle page_between second after page_after
      → Puts (word ++ end ∷ rest) before page second after page_after
  word_then first middle page_between second after page_after put_first one other =
      subst (λ bytes. Puts bytes before page second after page_after) joined
      (both (word ++ end ∷ []) rest before page first middle page_between second after page_after put_first one other)

  pub word_not : (first second : Result (Unit {0}) Refusal) (middle : ℕ) (page_after : List ℕ) → is_ok first ≡ false → is_ok second ≡ false
      → Puts (word ++ end ∷ []) before page first middle page_after → Puts (word ++ end ∷ rest) before page second middle page_after
  word_not first second middle page_after no_first no_second one =
      subst (λ bytes. Puts bytes before page second middle page_after) joined
      (first_not (word ++ end ∷ []) rest before page first second middle page_after no_first no_second one)

-- a line all of which was put, with so many bytes left behind it, and which was finished
module _ (bytes : List ℕ) (rest before : ℕ) (page : List ℕ) where
  pub finished : (result : Result (Unit {0}) Refusal) (counted after : ℕ) (page_after : List ℕ)
      → is_ok result ≡ true → counted ≡ after → leb (after + rest) (length page_after) ≡ true
      → Puts bytes before page result after page_after → PutsLine bytes rest before page true counted page_after
  finished result counted after page_after put_all same left one =
      let there = one.done (sym one.answers ∙ put_all) in
      record {
        answers = sym ((λ k. leb (sym there.0 k + rest) (sym one.long k)) ∙ left);
        counted = same ∙ there.0;
        there = λ e. there.1;
        before_it = one.before_it;
        long = one.long;
      }

-- the number that was put, by another name
pub renumbered : (number same end before : ℕ) (page : List ℕ) (answer : Result (Unit {0}) Refusal) (after : ℕ) (page_after : List ℕ) → number ≡ same
    → Puts (decimal number ++ end ∷ []) before page answer after page_after → Puts (decimal same ++ end ∷ []) before page answer after page_after
renumbered number same end before page answer after page_after e one =
    subst (λ n. Puts (decimal n ++ end ∷ []) before page answer after page_after) e one

-- bytes that are the same
pub rewritten : (bytes same : List ℕ) (before : ℕ) (page : List ℕ) (answer : Result (Unit {0}) Refusal) (after : ℕ) (page_after : List ℕ) → bytes ≡ same
    → Puts bytes before page answer after page_after → Puts same before page answer after page_after
rewritten bytes same before page answer after page_after e one = subst (λ b. Puts b before page answer after page_after) e one
