use Rattle.std.proofs.Common.{sym, ap}
use Rattle.std.proofs.lemmas.Option.{same_Some}
use Rattle.request.specs.Parts.{parts_left, part_of, field_of}
use Rattle.request.proofs.Forms.{all_filled}
use Rattle.request.proofs.fields.Fields.of.Goals as goal

pub returns : goal.returns
returns c = record {
  value = sym (all_filled c.args.verb (parts_left c.args.parts) (parts_left c.filled.new.self) (parts_left c.filled-2.new.self) (part_of c.in_ok-caller.caller) (part_of c.in_ok-identifier.identifier) _ c.in_ok-caller.ensures c.in_ok-identifier.ensures (sym c.in_ok-more.ensures));
  identifier = λ fields is. ap (λ f. (field_of f.identifier).sort) (sym (same_Some _ _ is));
}
