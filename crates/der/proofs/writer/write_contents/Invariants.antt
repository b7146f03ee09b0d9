use Rattle.std.proofs.Common.{◌≡◌, ◌≤◌, ◌++◌, length, take, drop}
use Rattle.oid.specs.Meaning.{arcs_of}
use Rattle.der.specs.Writing.{contents_of}
use Rattle.der.proofs.Contents.{written}
use Rattle.der.proofs.writer.write_contents.Given as goal

-- what is written and what is still to be written are all contents, and the page behind is as it was
abbrev pub invariant-loop-arc : goal.invariant-loop-arc
invariant-loop-arc l = record {
  within : l.end ≤ length l.page;
  so_far : take l.end l.page ++ written (drop l.arc-index l.later) ≡ contents_of (arcs_of l.identifier);
  same : drop l.end l.page ≡ drop l.end l.fn.page;
}
