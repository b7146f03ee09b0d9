-- The options that there are: how each is named, and what stands where it is not given.
use Rattle.std.specs.Prelude.{ℕ, List, [], ◌∷◌, find, Option, ◌==◌, codes}
use Rattle.std.specs.Cmp.Lexicographic.{pointwise}
use Rattle.options.specs.declared.name.Name.{Name}
use Rattle.options.specs.declared.name.Name.TheVariants.{Root, Holder, Quota, Panels, Authorities, Page}

abbrev pub names : List Name
names = Root ∷ Holder ∷ Quota ∷ Panels ∷ Authorities ∷ Page ∷ []

-- the word that names an option
abbrev pub name_text : Name → List ℕ
name_text Root = codes "--root"
name_text Holder = codes "--holder"
name_text Quota = codes "--quota"
name_text Panels = codes "--panels"
name_text Authorities = codes "--authorities"
name_text Page = codes "--page"

-- the option that a word names, if it names one
abbrev pub name_of : List ℕ → Option Name
name_of word = find (λ name. pointwise ◌==◌ (name_text name) word) names

-- the value that stands where the option is not given
abbrev pub usual_text : Name → List ℕ
usual_text Root = codes "2.999"
usual_text Holder = codes "1"
usual_text Quota = codes "10"
usual_text Panels = codes "100-102"
usual_text Authorities = codes "1,3,5"
usual_text Page = codes "4096"
