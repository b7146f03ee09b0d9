use Rattle.std.proofs.Common.{rules, codes, sym, ap, arith}
use Rattle.std.proofs.lemmas.Slice.Eq.{text_from_reads}
use Rattle.conformance.specs.Differences.{mark_of}
use Rattle.conformance.proofs.mark.mark_of.Goals as goal

pub returns-in-109 : goal.returns-in-109
returns-in-109 c =
    let same = text_from_reads c.args.word.now (codes "many-long") (omega arith) (search rules) in
    sym (ap mark_of same)

pub returns-in-108 : goal.returns-in-108
returns-in-108 c =
    let same = text_from_reads c.args.word.now (codes "large-long") (omega arith) (search rules) in
    sym (ap mark_of same)
