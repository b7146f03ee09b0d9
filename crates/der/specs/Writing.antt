-- The encoding of an identifier (X.690, 8.19).
use Rattle.std.specs.Prelude.{ℕ, ◌+◌, List, [], ◌∷◌, length}
use Rattle.std.specs.List.{flat_map}
use Rattle.der.specs.Base128.{base128}
use Rattle.der.specs.Header.{tag, most_contents, header_length}
use Rattle.der.specs.Subidentifiers.{joined_arcs}

-- the first two arcs are joined, and each later one is a subidentifier of its own
abbrev pub subidentifiers_of : List ℕ → List ℕ
subidentifiers_of [] = []
subidentifiers_of (first ∷ []) = []
subidentifiers_of (first ∷ (second ∷ others)) = joined_arcs first second ∷ others

-- the subidentifiers in base 128, one after the other
unfoldable pub contents_of : List ℕ → List ℕ
contents_of arcs = flat_map base128 (subidentifiers_of arcs)

-- the tag, the length of the contents, the contents
unfoldable pub der_bytes : List ℕ → List ℕ
der_bytes arcs = tag ∷ (length (contents_of arcs) ∷ contents_of arcs)

-- no identifier's encoding has more bytes
abbrev pub der_limit : ℕ
der_limit = header_length + most_contents
