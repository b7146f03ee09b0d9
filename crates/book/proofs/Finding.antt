-- How an arc is found depends only on the arcs of a rule's set.
use Rattle.std.proofs.Common.{◌≡◌, ℕ, Bool, true, false, ◌&&◌, not, List, refl, ap}
use Rattle.std.proofs.lemmas.Bool.{leb-true}
use Rattle.oid.specs.Arcs.{is_arc, arc_limit}
use Rattle.arc_rules.specs.Rules.{Meaning}
use Rattle.arc_rules.specs.Laws.{SameArcs}
use Rattle.arc_rules.proofs.Searching.{search_is_lowest}
use Rattle.arc_rules.proofs.Theorems.{one_answer}
use Rattle.book.specs.Book.{Entry, is_taken}
use Rattle.book.specs.Free.{in_set, untaken, free_arc}
use Rattle.book.specs.Rulings.{Ruling}
use Rattle.book.specs.Questions.{Finder, lowest_free, claimed}
use Rattle.book.specs.declared.refusal.Refusal.TheVariants.{NoArc, ArcTaken}
use Rattle.book.proofs.Asking.{ask-cong, there_is-cong}

-- two ways to find an arc come to the same, where what follows does
abbrev pub FindAlike : Finder → Finder → Type 0
FindAlike one other = (children : List Entry) (others more : ℕ → Ruling) → ((arc : ℕ) → others arc ≡ more arc)
    → one children others ≡ other children more

module _ (one other : Meaning) (same : SameArcs one.set other.set) where
  in_set-same : (arc : ℕ) → in_set one.set arc ≡ in_set other.set arc
  in_set-same arc = go (is_arc arc) refl
    where
      go : (v : Bool) → is_arc arc ≡ v → (v && one.set arc) ≡ (v && other.set arc)
      go true is = same arc (leb-true arc arc_limit is)
      go false is = refl

  free_arc-same : (children : List Entry) → free_arc one.set children ≡ free_arc other.set children
  free_arc-same children =
      one_answer (untaken one.set children) (untaken other.set children)
      (λ arc within. ap (λ v. v && not (is_taken arc children)) (same arc within)) 0 _ _
      (search_is_lowest (untaken one.set children) 0) (search_is_lowest (untaken other.set children) 0)

  pub lowest_free-alike : FindAlike (lowest_free one) (lowest_free other)
  lowest_free-alike children others more follow =
      there_is-cong NoArc (free_arc one.set children) (free_arc other.set children) (free_arc-same children) (λ arc is. follow arc)

  pub claimed-alike : (arc : ℕ) → FindAlike (claimed one arc) (claimed other arc)
  claimed-alike arc children others more follow =
      ask-cong NoArc (in_set one.set arc) (in_set other.set arc) (in_set-same arc)
      (λ is. ask-cong ArcTaken (not (is_taken arc children)) _ refl (λ is. follow arc))
