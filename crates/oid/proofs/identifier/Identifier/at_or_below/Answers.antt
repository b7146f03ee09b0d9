use Rattle.std.proofs.Common.{◌≡◌}
use Rattle.std.proofs.lemmas.Slice.Eq.{starts_is}
use Rattle.oid.specs.Tree.{at_or_below}
use Rattle.oid.proofs.Tree.{begins_is}
use Rattle.oid.proofs.identifier.Identifier.at_or_below.Goals as goal
use Rattle.std.proofs.lemmas.Bool.Decides.{Decides-eqb}

pub returns : goal.returns
returns c =
    let list = c.arcs.result.now in
    let front = c.arcs-2.result.now in
    let is : c.starts_with.result ≡ at_or_below list front =
    begins_is list front _ (starts_is Decides-eqb list front _ c.starts_with.ensures.value) in
    let p = c.arcs.ensures.value in
    let q = c.arcs-2.ensures.value in
    cc
