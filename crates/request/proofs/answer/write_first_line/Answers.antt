use Rattle.std.proofs.Common.{◌≡◌, true, length, sym, ◌∙◌, subst}
use Rattle.std.proofs.lemmas.Bool.{both_ways, cond-true}
use Rattle.oid.specs.Pages.{at_front, fits}
use Rattle.dotted.proofs.Fronts.{placed_front}
use Rattle.request.specs.Answers.{first_line}
use Rattle.request.specs.Limits.{has_room}
use Rattle.request.specs.ReadBack.{ReadsBack}
use Rattle.request.proofs.Fitting.{first_fits}
use Rattle.request.proofs.ReadBack.{reads_it_back}
use Rattle.request.proofs.answer.write_first_line.Goals as goal
use Rattle.request.proofs.answer.write_first_line.Goals.{After-put_first}

-- the page is long enough for answers, and so for this one
module _ (c : After-put_first) where
  room : has_room (length c.args.page.now) ≡ true
  room = sym c.has_room.ensures ∙ c.if-not-has_room.false

  there : fits 0 (first_line c.args.answer) c.args.page.now ≡ true
  there = first_fits c.args.answer c.args.page.now c.put_first.ensures.offset room

  put : c.put_first.new.page ≡ at_front (first_line c.args.answer) c.args.page.now
  put = (c.put_first.ensures.puts.done there).1 ∙ placed_front (first_line c.args.answer) c.args.page.now

pub returns-in-Ok-clause-after : goal.returns-in-Ok-clause-after
returns-in-Ok-clause-after c =
    let s = (goal.at.returns-in-Ok-clause-after c).After-put_first in
    put s ∙ sym (cond-true (has_room (length c.args.page.now)) _ _ (room s))

pub returns-in-Ok-clause-reads_back : goal.returns-in-Ok-clause-reads_back
returns-in-Ok-clause-reads_back c =
    let s = (goal.at.returns-in-Ok-clause-reads_back c).After-put_first in
    subst (ReadsBack c.args.answer) (sym (put s)) (reads_it_back c.args.answer c.args.page.now c.put_first.ensures.offset)

pub returns-in-Err-clause-value : goal.returns-in-Err-clause-value
returns-in-Err-clause-value c =
    let s = (goal.at.returns-in-Err-clause-value c).After-put_first in
    absurd (both_ways (fits 0 (first_line c.args.answer) c.args.page.now) (sym c.in-Err.ensures.puts.answers) (there s))

pub returns-in-Err-clause-after : goal.returns-in-Err-clause-after
returns-in-Err-clause-after c =
    let s = (goal.at.returns-in-Err-clause-after c).After-put_first in
    absurd (both_ways (fits 0 (first_line c.args.answer) c.args.page.now) (sym c.in-Err.ensures.puts.answers) (there s))
