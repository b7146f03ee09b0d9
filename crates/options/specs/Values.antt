-- What the values of options stand for.
use Rattle.std.specs.Prelude.{ℕ, ◌+◌, List, [], ◌∷◌, cond, nat_le, Some, None, Option, Result, ◌==◌}
use Rattle.std.specs.List.{slice_split}
use Rattle.std.specs.Option.{option_map, option_and_then, ok_or}
use Rattle.std.specs.Result.{result_map_both}
use Rattle.oid.specs.Arcs.{arc_of}
use Rattle.arc_rules.specs.Listed.{listed_most, listed_refusal}
use Rattle.arc_rules.specs.Refusals.{unless_refused}
use Rattle.arc_rules.specs.Sets.{ArcSet, from_to, among}
use Rattle.arc_rules.specs.declared.refusal.RuleRefusal.{RuleRefusal}
use Rattle.dotted.specs.Pieces.{numeral}
use Rattle.dotted.specs.Reading.{read_dotted}
use Rattle.options.specs.declared.bad_option.BadOption.{BadOption}
use Rattle.options.specs.declared.bad_option.BadOption.TheVariants.{NotAnIdentifier, NotANumber, NotARange, NotAList}
use Rattle.options.specs.declared.name.Name.{Name}

-- the largest number of 32 bits, and the most bytes of a page
abbrev pub most_number : ℕ
most_number = 4294967295

abbrev pub most_page : ℕ
most_page = 1048576

abbrev pub minus : ℕ
minus = 45

abbrev pub comma : ℕ
comma = 44

-- the identifier that dotted text stands for
abbrev pub root_in : List ℕ → Result (List ℕ) BadOption
root_in text = result_map_both (λ arcs. arcs) NotAnIdentifier (read_dotted text)

-- a number from 0 to the most
abbrev pub number_to : ℕ → List ℕ → Option ℕ
number_to most text = option_and_then (λ number. cond (nat_le number most) (Some number) None) (numeral text)

abbrev pub number_in : Name → ℕ → List ℕ → Result ℕ BadOption
number_in option most text = ok_or (number_to most text) (NotANumber option most)

-- an arc
abbrev pub arc_in : List ℕ → Option ℕ
arc_in text = option_and_then arc_of (numeral text)

-- two texts, each an arc
abbrev pub two_arcs : List (List ℕ) → Option (ℕ × ℕ)
two_arcs (first ∷ last ∷ []) = option_and_then (λ low. option_map (λ high. (low, high)) (arc_in last)) (arc_in first)
two_arcs texts = None

-- the arcs from the first to the last, with one - between
abbrev pub range_in : List ℕ → Option ArcSet
range_in text = option_map (λ arcs. from_to arcs.0 arcs.1) (two_arcs (slice_split (λ byte. byte == minus) text))

abbrev pub panels_in : List ℕ → Result ArcSet BadOption
panels_in text = ok_or (range_in text) NotARange

-- any number of texts, each an arc
unfoldable pub all_arcs : List (List ℕ) → Option (List ℕ)
all_arcs [] = Some []
all_arcs (text ∷ texts) = option_and_then (λ arc. option_map (λ arcs. arc ∷ arcs) (all_arcs texts)) (arc_in text)

-- arcs with a comma between neighbours; no text at all is no arc
abbrev pub arcs_in : List ℕ → Option (List ℕ)
arcs_in [] = Some []
arcs_in text = all_arcs (slice_split (λ byte. byte == comma) text)

-- how many arcs of a list the program keeps: one more than a rule may list
abbrev pub kept_most : ℕ
kept_most = listed_most + 1

-- the arcs that are listed, and why the list is refused, if it is; it then has no arc
abbrev pub listing : List ℕ → ArcSet × Option RuleRefusal
listing arcs = (unless_refused (listed_refusal arcs) (among arcs), listed_refusal arcs)

abbrev pub authorities_in : List ℕ → Result (ArcSet × Option RuleRefusal) BadOption
authorities_in text = ok_or (option_map listing (arcs_in text)) NotAList
