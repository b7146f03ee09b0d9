-- The text of an identifier is ASCII, so that it can be printed.
use Rattle.std.proofs.Common.{◌≡◌, ℕ, true, List, [], ◌∷◌, decimal, arith}
use Rattle.std.specs.Str.{IsAscii, IsUtf8}
use Rattle.std.specs.List.{flat_map}
use Rattle.std.proofs.lemmas.Bool.{and_parts}
use Rattle.std.proofs.lemmas.Fmt.{IsAscii-decimal}
use Rattle.std.proofs.lemmas.Str.{IsUtf8-from_ascii, IsAscii-append}
use Rattle.std.proofs.lemmas.Str.Ascii.{IsAscii-nil, IsAscii-cons}
use Rattle.oid.specs.Tree.{all_arcs, is_identifier}
use Rattle.oid.proofs.Tree.{keeps}
use Rattle.oid.specs.Arcs.{is_arc}
use Rattle.dotted.specs.Writing.{after_dot, dotted_text}
use Rattle.dotted.proofs.Texts.{arc_fits}

later_ascii : (arcs : List ℕ) → all_arcs arcs ≡ true → IsAscii (flat_map after_dot arcs)
unfolding all_arcs
later_ascii [] h = IsAscii-nil
later_ascii (arc ∷ arcs) h =
    let parts = and_parts (is_arc arc) (all_arcs arcs) h in
    IsAscii-append (after_dot arc) (flat_map after_dot arcs) (IsAscii-cons 46 (decimal arc) (omega arith) (IsAscii-decimal arc (arc_fits arc parts.0))) (later_ascii arcs parts.1)

arcs_ascii : (arcs : List ℕ) → all_arcs arcs ≡ true → IsAscii (dotted_text arcs)
unfolding all_arcs dotted_text
arcs_ascii [] h = IsAscii-nil
arcs_ascii (arc ∷ arcs) h =
    let parts = and_parts (is_arc arc) (all_arcs arcs) h in
    IsAscii-append (decimal arc) (flat_map after_dot arcs) (IsAscii-decimal arc (arc_fits arc parts.0)) (later_ascii arcs parts.1)

pub text_utf8 : (arcs : List ℕ) → is_identifier arcs ≡ true → IsUtf8 (dotted_text arcs)
text_utf8 arcs h = IsUtf8-from_ascii (dotted_text arcs) (arcs_ascii arcs (keeps arcs h).each)
