use Rattle.std.proofs.Common.{◌≡◌, ◌<◌, [], IfSome, length, take, refl, subst, arith, Some}
use Rattle.std.specs.Io.KnownBytes.{Consumes}
use Rattle.std.proofs.lemmas.List.{append-nil}
use Rattle.input.specs.Lines.{LinesOf, ended, lines_in}
use Rattle.input.proofs.Feeding.{fed_none, fed_more, fed_last, fed_all}
use Rattle.input.proofs.feed.read_lines.Given.{Over}
use Rattle.input.proofs.feed.read_lines.Goals as goal

pub loop-init : goal.loop-init
loop-init g c =
    (fed_none g.T.LineTaker.taken (g.R.Read.remaining c.args.input.now) c.args.taker.now c.in_ok-line.line (g.met.T.LineTaker.none c.args.taker.now) c.in_ok-line.ensures, refl)

pub loop-preserved : goal.loop-preserved
loop-preserved g c =
    let so_far = c.loop.invariant in
    let piece = c.in_ok-take_bytes.ensures in
    let further = g.met.T.LineTaker.further in
    let input = take c.in_ok-count.count c.read.new.buf in (
      fed_more g.T.LineTaker.taken _ _ further _ c.loop.taker c.loop.line so_far.0 (g.R.Read.remaining c.read.new.self) c.pause.new.self c.take_bytes.new.line input c.in_ok-count.ensures.bytes.0 piece.rest
          (λ bytes under. subst (λ lines. g.T.LineTaker.taken c.loop.taker lines c.pause.new.self) (append-nil (ended bytes input))
          (further c.loop.taker c.take_bytes.new.taker c.pause.new.self (ended bytes input) [] (piece.taken bytes under) c.in_ok-pause.ensures)),
      omega arith,
    )

-- all lines of what was read are taken
read : (g : Over) (c : goal.After-drop-line-inside-then-count-eq0 g) → g.T.LineTaker.taken c.args.taker.now (lines_in c.loop.invariant.0.read) c.take_last.new.taker
read g c = fed_last g.T.LineTaker.taken _ _ g.met.T.LineTaker.further _ c.loop.taker c.loop.line c.loop.invariant.0 c.take_last.new.taker c.in_ok-take_last.ensures

-- they are those of the reader
all : (g : Over) (c : goal.After-drop-line-inside-then-count-eq0 g) → LinesOf (g.R.Read.remaining c.args.input.now) (lines_in c.loop.invariant.0.read)
    × IfSome (g.R.Read.remaining c.args.input.now) (λ bytes. g.R.Read.remaining c.read.new.self ≡ Some [])
all g c =
    let left = g.R.Read.remaining c.loop.input in
    let left' = g.R.Read.remaining c.read.new.self in
    let given = subst (λ n. Consumes left left' (take n c.read.new.buf)) c.if-count-eq0.true c.in_ok-count.ensures.bytes.0 in
    let room : 0 < length c.read.new.buf = omega arith in
    let end = c.in_ok-count.ensures.bytes.1 c.if-count-eq0.true room in
    fed_all g.T.LineTaker.taken _ _ left left' c.loop.taker c.loop.line c.loop.invariant.0 given end

pub returns-then-count-eq0 : goal.returns-then-count-eq0
returns-then-count-eq0 g c = record { taken = (lines_in c.loop.invariant.0.read, (all g c).0, read g c); end = (all g c).1 }
