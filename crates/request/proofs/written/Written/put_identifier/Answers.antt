use Rattle.std.proofs.Common.{◌∷◌, [], refl}
use Rattle.oid.specs.Meaning.{arcs_of}
use Rattle.dotted.specs.Writing.{dotted_text}
use Rattle.request.proofs.Putting.{both, wrote}
use Rattle.request.proofs.written.Written.put_identifier.Goals as goal

pub returns : goal.returns
returns c =
    let front = dotted_text (arcs_of c.args.identifier.now) in
    let one = wrote front c.args.self.now.length c.args.page.now _ c.in_ok-self.ensures.after _ c.in_ok-self.ensures.value in
    both front (c.args.end ∷ []) c.args.self.now.length c.args.page.now _ _ _ _ _ _ refl one c.put_bytes.ensures
