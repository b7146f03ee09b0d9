use Rattle.std.proofs.Common.{◌<◌, leb, length, Err, sym, ap, ◌∙◌, arith}
use Rattle.std.proofs.lemmas.Bool.{and_right, lt-leb}
use Rattle.std.proofs.lemmas.Result.{err_from_is_err_and}
use Rattle.input.specs.Limits.{line_limit}
use Rattle.request.specs.Limits.{least_line, most_line}
use Rattle.request.specs.Reading.{read_line}
use Rattle.request.proofs.Asking.{not_sized}
use Rattle.readings.specs.Answers.{reading_in}
use Rattle.readings.proofs.request_lines.judge.Goals as goal

pub returns-in_default : goal.returns-in_default
returns-in_default c bytes took =
    let long : line_limit < length bytes = c.in_default.ensures.value bytes took in
    let short = lt-leb (length bytes) most_line (omega (arith, long)) in
    ap Err c.at.ensures ∙ sym (not_sized bytes (and_right (leb least_line (length bytes)) _ short))

pub returns-in_err-read : goal.returns-in_err-read
returns-in_err-read c bytes took =
    let p = err_from_is_err_and c.from_residual.result c.from_residual.ensures.1 in
    ap reading_in (p.1 ∙ ap Err p.2) ∙ c.in_err-read.ensures.value ∙ ap read_line (c.in-Some.ensures.value bytes took)

pub returns : goal.returns
returns c bytes took = c.in_ok-read.ensures.value ∙ ap read_line (c.in-Some.ensures.value bytes took)
