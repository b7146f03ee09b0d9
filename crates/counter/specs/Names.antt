-- The names of counter calls.
use Rattle.std.specs.Prelude.{ℕ, List, [], ◌∷◌, find, Option, ◌==◌, codes}
use Rattle.std.specs.Cmp.Lexicographic.{pointwise}
use Rattle.counter.specs.declared.name.Name.{Name}
use Rattle.counter.specs.declared.name.Name.TheVariants.{Collect, Accept, Decline, Terms, Left, Tells}

abbrev pub names : List Name
names = Collect ∷ Accept ∷ Decline ∷ Terms ∷ Left ∷ Tells ∷ []

-- how a name is written
abbrev pub name_text : Name → List ℕ
name_text Collect = codes "@collect"
name_text Accept = codes "@accept"
name_text Decline = codes "@decline"
name_text Terms = codes "@terms"
name_text Left = codes "@left"
name_text Tells = codes "@tells"

-- the name that a word is, if it is one
abbrev pub name_of : List ℕ → Option Name
name_of word = find (λ name. pointwise ◌==◌ (name_text name) word) names
