use Rattle.std.proofs.Common.{[]}
use Rattle.conformance.proofs.taking.compare_lines.Goals as goal

pub returns : goal.returns
returns g c =
    let taken = c.in_ok-read_lines.ensures.taken in
    (taken.0, taken.1, taken.2 [] c.new-comparison.ensures)
