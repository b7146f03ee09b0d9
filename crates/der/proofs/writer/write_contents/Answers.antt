use Rattle.std.proofs.Common.{◌≡◌, ◌+◌, ◌≤◌, ◌++◌, length, take, drop, sym, refl, ap, ◌∙◌, append_assoc, arith}
use Rattle.std.proofs.lemmas.List.{take_at, drop_at, drop-drop, append-nil, take-append-drop}
use Rattle.oid.specs.Meaning.{arcs_of}
use Rattle.der.specs.Base128.{base128}
use Rattle.der.specs.Writing.{contents_of}
use Rattle.der.proofs.Contents.{written, contents_most, contents_are, length_are, written_more, length_more, written_none}
use Rattle.der.proofs.Writing.{lent_more, length_left}
use Rattle.der.proofs.writer.write_contents.Goals as goal

pub write_base128-end-requires : goal.write_base128-end-requires
write_base128-end-requires c = omega (arith, c.requires, length_are _ _ _ c.subidentifiers_of-joined.ensures)

pub loop-arc-init : goal.loop-arc-init
loop-arc-init c =
    let bytes = base128 c.subidentifiers_of-joined.result.0 in
    let rest = drop (length bytes) c.args.page.now in
    let value = c.write_base128-end.ensures.value in
    let after = c.write_base128-end.ensures.after in
    record {
      within = omega (arith, c.requires, length_are _ _ _ c.subidentifiers_of-joined.ensures);
      so_far =
          ap (λ l. l ++ written c.subidentifiers_of-joined.result.1.now) ((λ k. take (value k) (after k)) ∙ take_at bytes rest _ refl)
          ∙ sym (contents_are _ _ _ c.subidentifiers_of-joined.ensures);
      same = (λ k. drop (value k) (after k)) ∙ drop_at bytes rest _ refl ∙ ap (λ n. drop n c.args.page.now) (sym value);
    }

pub loop-arc-preserved : goal.loop-arc-preserved
loop-arc-preserved c =
    let later = c.subidentifiers_of-joined.result.1.now in
    let i = c.loop-arc.arc-index in
    let end = c.loop-arc.end in
    let page = c.loop-arc.page in
    let bytes = base128 c.from.result in
    let rest = written (drop (i + 1) later) in
    let count = c.write_base128-end-in-loop-arc.result in
    let left = length_left _ _ _ _ c.loop-arc.invariant.within c.loop-arc.invariant.so_far in
    let room : end + length bytes ≤ length page = omega (arith, c.requires, c.loop-arc.auto.page, length_more later i (omega arith), ap (λ n. length (base128 n)) c.from.ensures) in
    let longer = lent_more end count bytes page c.write_base128-end-in-loop-arc.new.page c.write_base128-end-in-loop-arc.ensures.value room c.write_base128-end-in-loop-arc.ensures.after in
    let next : bytes ++ rest ≡ written (drop i later) = ap (λ n. base128 n ++ rest) c.from.ensures ∙ sym (written_more later i (omega arith)) in
    record {
      within = longer.within;
      so_far = ap (λ l. l ++ rest) longer.front ∙ append_assoc (take end page) bytes rest ∙ ap (λ l. take end page ++ l) next ∙ c.loop-arc.invariant.so_far;
      same = longer.behind ∙ sym (drop-drop count end page) ∙ ap (drop count) c.loop-arc.invariant.same ∙ drop-drop count end c.args.page.now;
    }

pub returns : goal.returns
returns c =
    let contents = contents_of (arcs_of c.args.identifier.now) in
    let end = c.loop-arc.end in
    let page = c.loop-arc.page in
    let none = written_none c.subidentifiers_of-joined.result.1.now c.loop-arc.arc-index (omega arith) in
    let all : take end page ≡ contents = sym (ap (λ l. take end page ++ l) none ∙ append-nil (take end page)) ∙ c.loop-arc.invariant.so_far in
    let left = length_left _ _ _ _ c.loop-arc.invariant.within c.loop-arc.invariant.so_far in
    let value : end ≡ length contents = omega (arith, ap length none) in
    record {
      value = value;
      bound = omega (arith, contents_most (arcs_of c.args.identifier.now) c.args.identifier.now.rule);
      after = sym (take-append-drop end page) ∙ (λ k. all k ++ c.loop-arc.invariant.same k) ∙ ap (λ n. contents ++ drop n c.args.page.now) value;
    }
