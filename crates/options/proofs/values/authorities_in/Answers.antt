use Rattle.std.proofs.Common.{Ok, Some, ap, sym, ◌∙◌, option_map}
use Rattle.std.specs.Option.{ok_or}
use Rattle.options.specs.Values.{arcs_in}
use Rattle.options.specs.declared.bad_option.BadOption.TheVariants.{NotAList}
use Rattle.options.proofs.Keeping.{found_kept}
use Rattle.options.proofs.values.authorities_in.Goals as goal

pub returns-in-Some : goal.returns-in-Some
returns-in-Some c =
    let found = found_kept c.deref.result.now (arcs_in c.args.text.now) (ap Some c.deref.ensures.0 ∙ ap (option_map (λ arcs. arcs.items)) (sym c.in-Some.is) ∙ c.arcs_in.ensures) in
    (λ k. Ok (c.new.ensures.set k, c.new.ensures.refusal k)) ∙ ap (λ listed. ok_or listed NotAList) found
