use Rattle.std.proofs.Common.{◌≡◌, ◌+◌, length, drop}
use Rattle.oid.specs.Meaning.{arcs_of}
use Rattle.oid.specs.Pages.{placed, at_front}
use Rattle.dotted.specs.Writing.{dotted_text}
use Rattle.dotted.proofs.Texts.{later_arcs}
use Rattle.dotted.proofs.writer.write_text.Given as goal

-- what is left of the text, put at the present end, gives the page that is wanted
abbrev pub invariant-loop-arc : goal.invariant-loop-arc
invariant-loop-arc l = record {
  long : l.end + length (later_arcs (drop l.arc-index l.arc-items)) ≡ length (dotted_text (arcs_of l.identifier));
  page : placed l.end (later_arcs (drop l.arc-index l.arc-items)) l.page ≡ at_front (dotted_text (arcs_of l.identifier)) l.fn.page;
}
