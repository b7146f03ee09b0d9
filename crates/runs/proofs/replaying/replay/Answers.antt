use Rattle.std.proofs.Common.{refl, sym, ◌∙◌, arith}
use Rattle.runs.proofs.Progress.{same_rules, none_yet, one_more, taken_more, all_taken, all_sent}
use Rattle.runs.proofs.replaying.replay.Goals as goal

pub loop-call-init : goal.loop-call-init
loop-call-init g c =
    let gives = c.into_iter-call-iterator.ensures.into_iter_gives in
    record {
      so_far = none_yet _ _ _ _ c.in_ok-desk.ensures.led c.in_ok-said.ensures.items;
      left = gives.0;
      room = omega (arith, c.in_ok-said.ensures.len, c.in_ok-said.ensures.capacity, c.len.ensures, gives.1);
      serial = c.in_ok-desk.ensures.serial;
      refusal = refl;
    }

pub push_reserved-requires : goal.push_reserved-requires
push_reserved-requires g c = omega (arith, c.loop-call.invariant.room, c.in-Some.ensures.steps.1)

pub loop-call-preserved : goal.loop-call-preserved
loop-call-preserved g c =
    let before = c.loop-call.invariant in
    let steps = c.in-Some.ensures.steps in
    let rest = c.send.ensures.rest in
    let pushed = c.push_reserved.ensures in
    record {
      so_far = one_more _ _ _ _ _ c.loop-call.yielded c.loop-call.said.items c.push_reserved.new.self.items c.in-Some.call c.send.result
          before.so_far c.send.ensures.serves (same_rules g.P.ArcRule.means g.A.ArcRule.means c.loop-call.desk c.send.new.desk rest) pushed.items;
      left = taken_more c.loop-call.yielded _ _ _ c.in-Some.call before.left steps.0;
      room = omega (arith, before.room, steps.1, pushed.len, pushed.capacity);
      serial = rest.serial ∙ before.serial;
      refusal = rest.refusal ∙ before.refusal;
    }

pub returns-clause-replays : goal.returns-clause-replays
returns-clause-replays g c =
    let left = c.loop-call.call-iterator.rest in
    let before = c.loop-call.invariant in
    all_sent _ _ _ c.loop-call.yielded _ _ before.so_far
    (all_taken c.loop-call.yielded left.items _ before.left (sym left.ok.0 ∙ c.in-None.ensures.steps.0))
