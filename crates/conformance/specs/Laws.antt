-- What the examples come to.
use Rattle.std.specs.Prelude.{◌≡◌, None}
use Rattle.conformance.specs.Output.{standards, newer, from_example}

-- Our readers and writers agree with both examples, whatever the program is run on.
abbrev pub ExamplesAgree : Type 0
ExamplesAgree = (from_example standards ≡ None) × (from_example newer ≡ None)
