use Rattle.std.proofs.Common.{◌≡◌, Bool, Decides, sym, subst, ◌∙◌, ◌==◌}
use Rattle.std.specs.Cmp.Lexicographic.{pointwise}
use Rattle.oid.specs.Meaning.{arcs_of}
use Rattle.oid.proofs.Equality.{equality_decides}
use Rattle.oid.proofs.identifier.same.IdentifierPartialEq.eq.Goals as goal

pub returns : goal.returns
returns c =
    let a = c.args.self.now in
    let b = c.args.other.now in
    let value = c.eq.ensures ∙ (λ k. pointwise ◌==◌ (c.arcs.ensures.value k) (c.arcs-2.ensures.value k)) in
    record {
      value = value;
      decides = subst (λ (r : Bool). Decides r (a ≡ b) × Decides r (arcs_of a ≡ arcs_of b)) (sym value) (equality_decides a b);
    }
