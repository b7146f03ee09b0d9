use Rattle.std.proofs.Common.{drop, ap, ◌∙◌}
use Rattle.std.specs.Result.{result_unwrap_or}
use Rattle.std.proofs.lemmas.List.{take_rest}
use Rattle.der.proofs.Theorems.{splits}
use Rattle.der.proofs.reader.split.Goals as goal

pub returns : goal.returns
returns c =
    let bytes = c.args.bytes.now in
    let count = c.unwrap_or-count.ensures ∙ ap (λ r. result_unwrap_or r 0) c.read.ensures.value in
    let rest = take_rest bytes c.unwrap_or-count.result in
    record {
      first = count;
      second = rest ∙ ap (λ n. drop n bytes) count;
      exactly = splits bytes c.unwrap_or-count.result _ (λ i. (c.type_inv.bytes i).fits) count rest;
    }
