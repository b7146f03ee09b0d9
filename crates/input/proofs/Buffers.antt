-- A buffer that has just been put before a writer.
use Rattle.std.proofs.Common.{◌≡◌, ℕ, List, [], None, Some, Option, Global, refl, ap, ◌∙◌}
use Rattle.std.specs.Io.Buffered.{writer_buffer, writer_contents, writer_inner}
use Rattle.std.specs.Io.KnownBytes.{append_known}
use Rattle.std.specs.declared.io.buffered.BufWriter.{BufWriter}
use Rattle.std.proofs.lemmas.List.{append-nil}

-- nothing more is known bytes
nothing_more : (known : Option (List ℕ)) → append_known known [] ≡ known
nothing_more None = refl
nothing_more (Some bytes) = ap Some (append-nil bytes)

-- an empty buffer has what its writer has
pub empty_has : {W : Type 0} (contents : W → Option (List ℕ)) (buffered : BufWriter W Global) (out : W) → writer_inner buffered ≡ out
    → writer_buffer buffered ≡ [] → writer_contents contents buffered ≡ contents out
empty_has contents buffered out inner empty = (λ k. append_known (contents (inner k)) (empty k)) ∙ nothing_more (contents out)
