use Rattle.std.proofs.Common.{◌∷◌, [], ◌++◌, refl}
use Rattle.oid.specs.Meaning.{arcs_of}
use Rattle.dotted.specs.Writing.{dotted_text}
use Rattle.request.specs.Answers.{feed}
use Rattle.request.proofs.Putting.{word_then}
use Rattle.request.proofs.answer.put_ok.Goals as goal

pub returns : goal.returns
returns c =
    word_then (111 ∷ 107 ∷ []) 32 (dotted_text (arcs_of c.args.identifier.now) ++ feed ∷ []) c.args.written.now.length c.args.page.now _ _ _ _ _ _ refl c.in_ok-put_word.ensures c.put_identifier.ensures
