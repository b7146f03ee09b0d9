use Rattle.std.proofs.Common.{◌≡◌, ◌+◌, ◌-◌, map, length, None, Some, is_some, sym, ap, ◌∙◌, arith}
use Rattle.std.proofs.lemmas.Bool.{cond-true, cond-false}
use Rattle.std.proofs.lemmas.List.{length-drop}
use Rattle.options.specs.Names.{name_of}
use Rattle.options.specs.Options.{fault_from}
use Rattle.options.proofs.Taking.{behind, fault_unknown, fault_no_value, fault_next, fault_done, fault_start, fewer_by_two, some_mapped}
use Rattle.options.proofs.given.fault_in.Goals as goal

pub loop-left-init : goal.loop-left-init
loop-left-init g c = record {
  within = omega (arith, ap length c.arguments-left.ensures, length-drop 1 c.args.words.now);
  same = fault_start g.S.AsStr.text c.args.words.now c.arguments-left.result.now c.arguments-left.ensures;
}

pub returns-in_default-of : goal.returns-in_default-of
returns-in_default-of g c =
    let name : name_of (g.S.AsStr.text c.word-item.result) ≡ None = ap name_of (sym (c.as_bytes.ensures.value ∙ c.as_str.ensures)) ∙ sym c.of.ensures ∙ c.in_default-of.is in
    let index = length c.args.words.now - length c.loop-left.left.now in
    sym (fault_unknown g.S.AsStr.text index c.loop-left.left.now c.word-item.result c.in-len1-up.len_at_least c.word-item.is name) ∙ c.loop-left.invariant.same

pub returns-in_default-behind : goal.returns-in_default-behind
returns-in_default-behind g c =
    let name : name_of (g.S.AsStr.text c.word-item.result) ≡ Some c.in-Some.option = ap name_of (sym (c.as_bytes.ensures.value ∙ c.as_str.ensures)) ∙ sym c.of.ensures ∙ c.in-Some.is in
    let index = length c.args.words.now - length c.loop-left.left.now in
    sym (fault_no_value g.S.AsStr.text index c.loop-left.left.now c.word-item.result c.in-Some.option c.in-len1-up.len_at_least c.in_default-behind.len_below c.word-item.is name)
    ∙ c.loop-left.invariant.same

pub returns-then-is_some : goal.returns-then-is_some
returns-then-is_some g c =
    let name : name_of (g.S.AsStr.text c.word-item.result) ≡ Some c.in-Some.option = ap name_of (sym (c.as_bytes.ensures.value ∙ c.as_str.ensures)) ∙ sym c.of.ensures ∙ c.in-Some.is in
    let index = length c.args.words.now - length c.loop-left.left.now in
    let next = fault_next g.S.AsStr.text index c.loop-left.left.now c.word-item.result c.in-Some.option c.in-len1-up.len_at_least c.in-len1-up-behind.len_at_least c.word-item.is name in
    let given = ap is_some (sym c.value_of.ensures) ∙ some_mapped (λ value. value.now) c.value_of.result ∙ sym c.is_some.ensures ∙ c.if-is_some.true in
    sym (next ∙ cond-true _ _ _ given) ∙ c.loop-left.invariant.same

pub loop-left-preserved : goal.loop-left-preserved
loop-left-preserved g c =
    let name : name_of (g.S.AsStr.text c.word-item.result) ≡ Some c.in-Some.option = ap name_of (sym (c.as_bytes.ensures.value ∙ c.as_str.ensures)) ∙ sym c.of.ensures ∙ c.in-Some.is in
    let left = c.loop-left.left.now in
    let words = c.args.words.now in
    let others = behind g.S.AsStr.text 1 (behind g.S.AsStr.text 1 left) in
    let index = length words - length left in
    let next = fault_next g.S.AsStr.text index left c.word-item.result c.in-Some.option c.in-len1-up.len_at_least c.in-len1-up-behind.len_at_least c.word-item.is name in
    let given = ap is_some (sym c.value_of.ensures) ∙ some_mapped (λ value. value.now) c.value_of.result ∙ sym c.is_some.ensures ∙ c.if-is_some.false in
    let fewer : length others + 2 ≡ length left = fewer_by_two g.S.AsStr.text left c.in-len1-up.len_at_least c.in-len1-up-behind.len_at_least in
    record {
      within = omega (arith, fewer, c.loop-left.invariant.within);
      same = ap (λ n. fault_from n (map g.S.AsStr.text others)) (omega (arith, fewer, c.loop-left.invariant.within)) ∙ sym (next ∙ cond-false _ _ _ given) ∙ c.loop-left.invariant.same;
    }

pub returns : goal.returns
returns g c = sym (fault_done g.S.AsStr.text (length c.args.words.now - length c.loop-left.left.now) c.loop-left.left.now c.in_default.len_below) ∙ c.loop-left.invariant.same
