use Rattle.std.proofs.Common.{◌≡◌, true, Some, sym, ap, ◌∙◌, subst}
use Rattle.std.specs.Option.{option_eq}
use Rattle.oid.specs.Meaning.{arcs_of}
use Rattle.oid.specs.Tree.{is_identifier, parent_of}
use Rattle.oid.proofs.Tree.{some_arcs}
use Rattle.book.specs.Book.{same}
use Rattle.register.proofs.Children.{child_by_front}
use Rattle.register.proofs.row.Row.is_child.Goals as goal

pub returns : goal.returns
returns c =
    let authority = arcs_of c.args.authority.now in
    let rule = subst (λ arcs. is_identifier arcs ≡ true) c.arcs-2.ensures.value c.arcs-2.ensures.rule in
    let own = sym c.arcs.ensures.value ∙ c.in-Some.ensures.cases.0 in
    c.eq.ensures ∙ ap (same c.in-Some.front.now) c.arcs-2.ensures.value
    ∙ sym (ap (λ own. option_eq same (parent_of own) (Some authority)) own ∙ child_by_front c.in-Some.front.now authority _ (some_arcs authority rule))
