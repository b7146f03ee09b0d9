-- What is printed of an identifier, given back as a line.
use Rattle.std.proofs.Common.{◌≡◌, ℕ, ◌-◌, ◌≤◌, true, List, [], ◌++◌, length, refl, ap, ◌∙◌, arith}
use Rattle.std.proofs.lemmas.Bool.{both_ways}
use Rattle.oid.specs.Tree.{is_identifier}
use Rattle.dotted.specs.Form.{begins_with_digit}
use Rattle.dotted.specs.Writing.{dotted_text}
use Rattle.dotted.proofs.Texts.{text_most}
use Rattle.dotted.proofs.Theorems.{text_begins, reads_back}
use Rattle.der.specs.Writing.{der_bytes}
use Rattle.der.proofs.Bytes.{encoding_bytes}
use Rattle.der.proofs.Contents.{contents_most, length_bytes}
use Rattle.der.proofs.Theorems.{reads_whole, whole_taken}
use Rattle.input.specs.Hex.{pairs_of}
use Rattle.input.specs.Limits.{line_limit}
use Rattle.input.proofs.Printed.{printed, pairs_read_back}
use Rattle.sticker.specs.Answers.{sticker, chip, by_text, by_content, on_content, chip_word, by_pairs, on_line}
use Rattle.sticker.specs.Laws.{GivenBack}
use Rattle.sticker.proofs.Judged.{line_chip, line_text}

module _ (arcs : List ℕ) (rule : is_identifier arcs ≡ true) where
  -- the text begins with a digit, and a chip's line does not
  text_back : on_line (dotted_text arcs) ≡ sticker arcs
  unfolding chip_word
  text_back =
      let text = dotted_text arcs in
      let short : length text ≤ line_limit = omega (arith, text_most arcs rule) in
      line_text text short (λ rest e. both_ways (begins_with_digit text) (ap begins_with_digit e) (text_begins arcs rule))
      ∙ ap by_text (reads_back arcs rule)

  encoding_back : on_line (chip_word ++ pairs_of [] (der_bytes arcs)) ≡ chip arcs (length (der_bytes arcs)) 0
  unfolding chip_word
  encoding_back =
      let bytes = der_bytes arcs in
      let pairs = pairs_of [] bytes in
      let each = encoding_bytes arcs rule in
      let back = pairs_read_back bytes each in
      let whole = reads_whole arcs rule in
      let taken = whole_taken bytes arcs whole in
      let none : length bytes - length bytes ≡ 0 = omega arith in
      let short : length (chip_word ++ pairs) ≤ line_limit = omega (arith, (printed bytes each).long, length_bytes arcs, contents_most arcs rule) in
      line_chip (chip_word ++ pairs) short pairs refl
      ∙ ap (λ stray. by_pairs stray pairs) back.0
      ∙ ap on_content back.1
      ∙ ap (by_content bytes) whole.0
      ∙ (λ k. chip arcs (taken k) (length bytes - taken k))
      ∙ ap (chip arcs (length bytes)) none

pub given_back : GivenBack
given_back arcs rule = (text_back arcs rule, encoding_back arcs rule)
