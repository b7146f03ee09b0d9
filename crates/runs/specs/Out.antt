-- What the code's Grants that are out mean, as `Hands` speaks of them.
use Rattle.std.specs.Prelude.{List, map}
use Rattle.oid.specs.Meaning.{arcs_of}
use Rattle.register.specs.Granted.{grant_of}
use Rattle.runs.specs.Hands.{Held}
use Rattle.runs.specs.declared.held.Held as code

abbrev pub held_of : code.Held → Held
held_of held = record { identifier = arcs_of held.entry; grant = grant_of held.grant }

abbrev pub held_in : List code.Held → List Held
held_in held = map held_of held
