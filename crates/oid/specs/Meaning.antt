-- What an identifier means: the list of its arcs.
use Rattle.std.specs.Prelude.{ℕ, List, take}
use Rattle.oid.specs.declared.identifier.Identifier.{Identifier}

abbrev pub arcs_of : Identifier → List ℕ
arcs_of i = take i.len i.arcs
