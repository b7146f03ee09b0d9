-- What is told at the counter, as it is written.
use Rattle.std.specs.Prelude.{ℕ, List, ◌++◌, codes, decimal}
use Rattle.book.specs.Refusals.{number_of}
use Rattle.counter.specs.Words.{words_of}
use Rattle.register.specs.declared.grant.Terms as register
use Rattle.desk.specs.declared.told.Told.{Told}
use Rattle.desk.specs.declared.told.Told.TheVariants.{Granted, Done, Terms, Left, Tells, No, NoCall}

-- the holder and the quota of a Grant
abbrev pub terms_text : register.Terms → List ℕ
terms_text terms = decimal terms.holder ++ (codes " " ++ decimal terms.quota)

abbrev pub told_text : Told → List ℕ
told_text (Granted terms) = codes "grant " ++ terms_text terms
told_text Done = codes "ok"
told_text (Terms terms) = codes "terms " ++ terms_text terms
told_text (Left left) = codes "left " ++ decimal left
told_text (Tells number) = codes "tells " ++ decimal number
told_text (No refusal) = codes "no " ++ decimal (number_of refusal)
told_text (NoCall no_call) = codes "no call " ++ words_of no_call
