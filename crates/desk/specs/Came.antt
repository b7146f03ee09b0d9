-- What comes back of a call at a desk, as it is told.
use Rattle.runs.specs.declared.call.Back.{Back}
use Rattle.runs.specs.declared.call.Back.TheVariants.{TooShort, Written, Handed, Done, Refused}
use Rattle.desk.specs.declared.told.Told as told
use Rattle.desk.specs.declared.told.Told.TheVariants.{Granted, No}
use Rattle.desk.specs.declared.told.Told.TheVariants as variants

-- only what comes back of a line is not told
abbrev pub told_by : Back → told.Told
told_by (Handed terms) = Granted terms
told_by Done = variants.Done
told_by (Refused refusal) = No refusal
told_by back = variants.Done
