use Rattle.std.proofs.Common.{◌+◌, ◌-◌, ◌≤◌, length, get_or, take, drop, decimal, sym, ap, ◌∙◌, arith}
use borrow.Rule.Slice.PartMut.{put_mid}
use Rattle.std.proofs.lemmas.List.{at_drop_all, length-append, take_rest}
use Rattle.oid.specs.Pages.{placed, at_front}
use Rattle.oid.proofs.Pages.{placed_none}
use Rattle.dotted.specs.Writing.{after_dot, dotted_text}
use Rattle.dotted.proofs.Fronts.{front_more, lent_more}
use Rattle.oid.proofs.Tree.{some_arcs}
use Rattle.dotted.proofs.Texts.{later_arcs, text_first, later_more}
use Rattle.dotted.proofs.writer.write_text.Goals as goal

pub write_number-end-requires : goal.write_number-end-requires
write_number-end-requires c =
    let arcs = c.arcs-arcs.result.now in
    let first = ap (λ n. length (decimal n)) c.from.ensures in
    let whole = ap (λ list. length (dotted_text list)) c.arcs-arcs.ensures.value in
    let parts = ap length (text_first arcs (omega (arith, some_arcs arcs c.arcs-arcs.ensures.rule))) in
    omega (arith, length-append (decimal (get_or arcs 0 0)) (later_arcs (drop 1 arcs)))

pub loop-arc-init : goal.loop-arc-init
loop-arc-init c =
    let arcs = c.arcs-arcs.result.now in
    let page = c.args.page.now in
    let front = decimal (get_or arcs 0 0) in
    let back = later_arcs (drop 1 arcs) in
    let text = text_first arcs (omega (arith, some_arcs arcs c.arcs-arcs.ensures.rule)) in
    let whole = ap (λ list. length (dotted_text list)) c.arcs-arcs.ensures.value in
    let parts = ap length text in
    let end = c.write_number-end.ensures.value ∙ ap (λ n. length (decimal n)) c.from.ensures in
    let after = c.write_number-end.ensures.after ∙ ap (λ n. at_front (decimal n) page) c.from.ensures in
    let rest = ap later_arcs (take_rest arcs 1) in
    let left = ap length rest in
    record {
      long = omega (arith, length-append front back);
      page =
          (λ k. placed (end k) (rest k) (after k)) ∙ front_more front back page (omega (arith, length-append front back))
          ∙ (λ k. at_front (sym text k) page) ∙ ap (λ list. at_front (dotted_text list) page) c.arcs-arcs.ensures.value;
    }

pub loop-arc-preserved : goal.loop-arc-preserved
loop-arc-preserved c =
    let items = take (length c.arcs-arcs.result.now - 1) (drop 1 c.arcs-arcs.result.now) in
    let i = c.loop-arc.arc-index in
    let end = c.loop-arc.end in
    let page = c.loop-arc.page in
    let front = after_dot (get_or items i 0) in
    let back = later_arcs (drop (i + 1) items) in
    let more = later_more items i c.loop-arc-test.true in
    let parts = ap length more in
    let room : end + length front ≤ length page =
    omega (arith, c.requires, c.loop-arc.invariant.long, c.loop-arc.auto.page, length-append front back) in
    let tail = c.write_after_dot-end.new.page in
    record {
      long = omega (arith, c.loop-arc.invariant.long, c.write_after_dot-end.ensures.value, length-append front back);
      page =
          (λ k. placed (end + c.write_after_dot-end.ensures.value k) back (put_mid end (length page - end) page tail))
          ∙ lent_more end front back page tail room c.write_after_dot-end.ensures.after
          ∙ (λ k. placed end (sym more k) page) ∙ c.loop-arc.invariant.page;
    }

pub returns : goal.returns
returns c =
    let items = take (length c.arcs-arcs.result.now - 1) (drop 1 c.arcs-arcs.result.now) in
    let none = at_drop_all later_arcs items c.loop-arc.arc-index c.loop-arc-test.false in
    record {
      value = omega (arith, c.loop-arc.invariant.long, ap length none);
      after =
          sym (placed_none c.loop-arc.end c.loop-arc.page)
          ∙ (λ k. placed c.loop-arc.end (sym none k) c.loop-arc.page) ∙ c.loop-arc.invariant.page;
    }
