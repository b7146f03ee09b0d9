use Rattle.std.proofs.Common.{refl}
use Rattle.conformance.specs.Comparing.{agreeing, first_difference}
use Rattle.conformance.proofs.comparison.Comparison.new.Goals as goal

pub returns : goal.returns
unfolding agreeing first_difference
returns c = record { agreed = refl; first = refl }
