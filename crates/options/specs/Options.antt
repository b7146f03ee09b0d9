-- What the options are, by the words of a command line.
use Rattle.std.specs.Prelude.{ℕ, ◌+◌, List, [], ◌∷◌, drop, cond, Some, None, Ok, Err, Option, Result, is_some, unwrap_or, ◌==◌}
use Rattle.std.specs.Cmp.Lexicographic.{pointwise}
use Rattle.oid.specs.Meaning.{arcs_of}
use Rattle.arc_rules.specs.Kept.{range_set, listed_set, refusal_of}
use Rattle.arc_rules.specs.Sets.{ArcSet}
use Rattle.arc_rules.specs.declared.refusal.RuleRefusal.{RuleRefusal}
use Rattle.options.specs.Names.{name_of, name_text, usual_text}
use Rattle.options.specs.Values.{most_number, most_page, root_in, number_in, panels_in, authorities_in}
use Rattle.options.specs.declared.bad_option.BadOption.{BadOption}
use Rattle.options.specs.declared.bad_option.BadOption.TheVariants.{Unknown, NoValue, Twice}
use Rattle.options.specs.declared.name.Name.{Name}
use Rattle.options.specs.declared.name.Name.TheVariants.{Root, Holder, Quota, Panels, Authorities, Page}
use Rattle.options.specs.declared.options.Options.{Options}

-- Arguments are options, each with its value behind it. The value that is given to an option, if one is.
unfoldable pub value_of : Name → List (List ℕ) → Option (List ℕ)
value_of name [] = None
value_of name (word ∷ []) = None
value_of name (word ∷ value ∷ others) = cond (pointwise ◌==◌ (name_text name) word) (Some value) (value_of name others)

-- the value that it has: the one that is given, or the usual one
abbrev pub value : Name → List (List ℕ) → List ℕ
value name arguments = unwrap_or (value_of name arguments) (usual_text name)

-- what is asked of a word that is to name an option
abbrev pub named : ℕ → Option Name → (Name → Option BadOption) → Option BadOption
named index None others = Some (Unknown index)
named index (Some name) others = others name

-- The first fault of arguments that are not options with their values, each option at most once. The first of the arguments is the word
-- with this index.
unfoldable pub fault_from : ℕ → List (List ℕ) → Option BadOption
fault_from index [] = None
fault_from index (word ∷ []) = named index (name_of word) (λ name. Some (NoValue name))
fault_from index (word ∷ value ∷ others) =
    named index (name_of word) (λ name. cond (is_some (value_of name others)) (Some (Twice name)) (fault_from (index + 2) others))

-- a question's answer is none for a yes; a no ends the reading
abbrev pub ask : {A : Type 0} → Option BadOption → Result A BadOption → Result A BadOption
ask None others = others
ask (Some bad) others = Err bad

-- what was read is put to the others; what is wrong stays
abbrev pub and_then : {A B : Type 0} → Result A BadOption → (A → Result B BadOption) → Result B BadOption
and_then (Ok found) others = others found
and_then (Err bad) others = Err bad

-- What options hold: the arcs of the root, the numbers of its holder and its quota, the arcs that are for panels and for authorities, and
-- why the latter were refused, if they were; and how many bytes the page has.
pub record Held : Type 0 where
  pub root : List ℕ
  pub holder : ℕ
  pub quota : ℕ
  pub panels : ArcSet
  pub authorities : ArcSet
  pub refused : Option RuleRefusal
  pub page : ℕ

abbrev pub held : Options → Held
held options = record {
  root = arcs_of options.root;
  holder = options.holder;
  quota = options.quota;
  panels = range_set options.panels;
  authorities = listed_set options.authorities;
  refused = refusal_of options.authorities;
  page = options.page;
}

-- the arguments are the words but for the first, which is the program's name
abbrev pub arguments_of : List (List ℕ) → List (List ℕ)
arguments_of words = drop 1 words

-- What is read of the words of a command line, or what is wrong first: with the options and their number, and then with a value.
unfoldable pub read_options : List (List ℕ) → Result Held BadOption
read_options words =
    let arguments = arguments_of words in
    ask (fault_from 1 arguments) (
    and_then (root_in (value Root arguments)) (λ root.
    and_then (number_in Holder most_number (value Holder arguments)) (λ holder.
    and_then (number_in Quota most_number (value Quota arguments)) (λ quota.
    and_then (panels_in (value Panels arguments)) (λ panels.
    and_then (authorities_in (value Authorities arguments)) (λ authorities.
    and_then (number_in Page most_page (value Page arguments)) (λ page.
    Ok (record {
      root = root;
      holder = holder;
      quota = quota;
      panels = panels;
      authorities = authorities.0;
      refused = authorities.1;
      page = page;
    }))))))))
