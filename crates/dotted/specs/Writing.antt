-- The text of an identifier.
use Rattle.std.specs.Prelude.{ℕ, List, [], ◌∷◌, ◌++◌, decimal}
use Rattle.std.specs.List.{flat_map}
use Rattle.dotted.specs.Form.{dot}

-- an arc in decimal, with a dot before it
abbrev pub after_dot : ℕ → List ℕ
after_dot arc = dot ∷ decimal arc

-- the arcs in decimal, with one dot between neighbours
unfoldable pub dotted_text : List ℕ → List ℕ
dotted_text [] = []
dotted_text (arc ∷ arcs) = decimal arc ++ flat_map after_dot arcs

-- no identifier's text has more bytes, whatever the arc limit within 64 bits: 16 arcs of at most 20 digits, with 15
-- dots
abbrev pub text_limit : ℕ
text_limit = 335
