use Rattle.std.proofs.Common.{[], ◌∷◌, ◌+◌, take, sym, ap, ◌∙◌, subst, arith}
use Rattle.std.proofs.lemmas.List.{take_all}
use Rattle.input.specs.Lines.{underway, ended}
use Rattle.input.proofs.Feeding.{underway_feed, ended_feed, underway_byte, ended_byte}
use Rattle.input.proofs.feed.take_bytes.Goals as goal
use Rattle.input.proofs.feed.take_bytes.Goals.{then-byte-eq10+in_ok-end_line, else-byte-eq10}

pub loop-byte-init : goal.loop-byte-init
unfolding underway ended
loop-byte-init g c = record { rest = λ bytes under. under; lines = λ bytes under. g.met.T.LineTaker.none c.args.taker.now }

pub loop-byte-preserved : goal.loop-byte-preserved
loop-byte-preserved g c =
    let input = c.args.input.now in
    let i = c.loop-byte.byte-index in
    let so_far = c.loop-byte.invariant in
    elim c.if-byte-eq10.branch [
      | then-byte-eq10+in_ok-end_line w ↦
          let feed = w.if-byte-eq10.true in
          record {
            rest = λ bytes under. w.line-is ∙ w.end_line.ensures.after ∙ sym (ap (take 4097) (underway_feed bytes input i (omega arith) feed));
            lines = λ bytes under.
                let line = underway bytes (take i input) in
                subst (g.T.LineTaker.taken c.args.taker.now (ended bytes (take (i + 1) input))) (sym w.taker-is)
                (subst (λ l. g.T.LineTaker.taken c.args.taker.now l w.end_line.new.taker) (sym (ended_feed bytes input i (omega arith) feed))
                (g.met.T.LineTaker.further c.args.taker.now c.loop-byte.taker w.end_line.new.taker (ended bytes (take i input)) (line ∷ [])
                (so_far.lines bytes under) (w.in_ok-end_line.ensures.taken line (so_far.rest bytes under))));
          }
      | else-byte-eq10 w ↦
          let other = w.if-byte-eq10.false in
          record {
            rest = λ bytes under.
                w.line-is ∙ w.take.ensures (underway bytes (take i input)) (so_far.rest bytes under) ∙ sym (ap (take 4097) (underway_byte bytes input i (omega arith) other));
            lines = λ bytes under.
                subst (g.T.LineTaker.taken c.args.taker.now (ended bytes (take (i + 1) input))) (sym w.taker-is)
                (subst (λ l. g.T.LineTaker.taken c.args.taker.now l c.loop-byte.taker) (sym (ended_byte bytes input i (omega arith) other)) (so_far.lines bytes under));
          }
    ]

pub returns-clause-rest : goal.returns-clause-rest
returns-clause-rest g c bytes under =
    c.loop-byte.invariant.rest bytes under ∙ ap (λ l. take 4097 (underway bytes l)) (take_all c.loop-byte.byte-index c.args.input.now (omega arith))

pub returns-clause-taken : goal.returns-clause-taken
returns-clause-taken g c bytes under =
    subst (λ l. g.T.LineTaker.taken c.args.taker.now (ended bytes l) c.loop-byte.taker)
    (take_all c.loop-byte.byte-index c.args.input.now (omega arith)) (c.loop-byte.invariant.lines bytes under)
