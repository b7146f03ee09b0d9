use Rattle.std.proofs.Common.{◌+◌, ◌∷◌, ◌++◌, length, drop, sym, ap, ◌∙◌, arith}
use Rattle.oid.specs.Meaning.{arcs_of}
use Rattle.der.specs.Header.{tag}
use Rattle.der.specs.Writing.{contents_of, der_bytes}
use Rattle.der.proofs.Contents.{length_bytes, bytes_are}
use Rattle.der.proofs.Writing.{header_more}
use Rattle.der.proofs.writer.write_encoding.Goals as goal

pub returns : goal.returns
returns c =
    let arcs = arcs_of c.args.identifier.now in
    let page = c.args.page.now in
    let contents = contents_of arcs in
    let long = length_bytes arcs in
    let value = c.write_contents-count.ensures.value in
    let header = header_more contents page c.write_contents-count.new.page c.write_contents-count.result (omega (arith, c.requires)) c.write_contents-count.ensures.after in
    record {
      value = omega arith;
      after = header ∙ ap (λ n. (tag ∷ (n ∷ contents)) ++ drop (2 + length contents) page) value ∙ ap (λ n. (tag ∷ (length contents ∷ contents)) ++ drop n page) (sym long) ∙ ap (λ l. l ++ drop (length (der_bytes arcs)) page) (sym (bytes_are arcs));
    }
