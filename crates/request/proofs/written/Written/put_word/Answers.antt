use Rattle.std.proofs.Common.{◌∷◌, [], refl}
use Rattle.request.proofs.Putting.{both}
use Rattle.request.proofs.written.Written.put_word.Goals as goal

pub returns : goal.returns
returns c =
    both c.args.word.now (c.args.end ∷ []) c.args.self.now.length c.args.page.now _ _ _ _ _ _ refl c.in_ok-put_bytes.ensures c.put_bytes-2.ensures
