use Rattle.std.proofs.Common.{sym, refl}
use Rattle.conformance.proofs.Compared.{compared_kept, compared_differs, compared_agrees}
use Rattle.conformance.proofs.Options.{some_found, none_found}
use Rattle.conformance.proofs.taking.ComparisonLineTaker.take_line.Goals as goal

pub returns-then-is_some-clause-goes_on : goal.returns-then-is_some-clause-goes_on
returns-then-is_some-clause-goes_on c bytes took earlier known =
    let found = some_found c.args.self.now.first (sym c.if-is_some.ensures) in
    compared_kept c.args.self.now _ earlier bytes known found.0 found.1 refl refl

pub returns-in-Err-clause-goes_on : goal.returns-in-Err-clause-goes_on
returns-in-Err-clause-goes_on c bytes took earlier known =
    let none = none_found c.args.self.now.first (sym c.if-is_some.ensures) in
    compared_differs c.args.self.now _ earlier bytes known none c.in-Err.difference (c.in-Err.ensures bytes took) refl refl

pub returns-in-Ok-clause-goes_on : goal.returns-in-Ok-clause-goes_on
returns-in-Ok-clause-goes_on c bytes took earlier known =
    let none = none_found c.args.self.now.first (sym c.if-is_some.ensures) in
    compared_agrees c.args.self.now _ earlier bytes known none (c.in-Ok.ensures bytes took) none c.saturating_add-self.ensures
