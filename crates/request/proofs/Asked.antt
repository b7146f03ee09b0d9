-- A line is read as a call exactly when it asks for it.
use Rattle.std.proofs.Common.{◌≡◌, ℕ, List, ◌∷◌, ◌++◌, length, Ok, sym, ap, ◌∙◌, subst, Result}
use Rattle.std.specs.List.{join_with_byte}
use Rattle.dotted.specs.Writing.{dotted_text}
use Rattle.request.specs.Fields.{space}
use Rattle.request.specs.Lines.{identifier_of, line_of, front_of, Asks, ReadsExactly}
use Rattle.request.specs.Reading.{Reading, call_by, read_line}
use Rattle.request.specs.declared.verb.Verb.{Verb}
use Rattle.request.proofs.Wording.{words_with, reading_with, LineWith, words_made, identifier_made, call_made, made, front_made}
use Rattle.request.specs.declared.refusal.Fault.{Fault}
use Rattle.request.proofs.FromWords.{written_read}
use Rattle.request.proofs.ToWords.{Found, read_written}

-- a line that is written so asks for its call
written_asks : (line : List ℕ) (verb : Verb) (holder : ℕ) (before arcs numbers : List ℕ) → LineWith line verb holder before arcs numbers
    → Asks line (reading_with verb holder arcs numbers)
written_asks line verb holder before arcs numbers w = record {
  sized = w.sized;
  call = call_made verb holder arcs numbers w.holds w.named w.ranged;
  prefix_or_none = before;
  prefixed = w.prefixed;
  written = w.written
      ∙ ap (λ l. join_with_byte space (words_with verb holder (before ++ dotted_text l) numbers)) (sym named)
      ∙ ap (join_with_byte space) (sym (words_made verb holder arcs (before ++ dotted_text (identifier_of (call_by verb (holder ∷ numbers) arcs))) numbers w.ranged));
  placed = ap length (sym (front_made verb holder arcs numbers w.ranged));
}
  where
    named : identifier_of (call_by verb (holder ∷ numbers) arcs) ≡ arcs
    named = identifier_made verb (holder ∷ numbers) arcs

-- a line that asks for a call is written so
pub asks_written : (line : List ℕ) (reading : Reading) → Asks line reading → Found line reading
asks_written line reading a =
    let m = made reading.call a.call in
    let arcs = identifier_of reading.call in
    let text = a.prefix_or_none ++ dotted_text arcs in
    record {
      verb = m.verb;
      holder = m.holder;
      before = a.prefix_or_none;
      arcs = arcs;
      numbers = m.numbers;
      is_written = record {
        sized = a.sized;
        holds = m.holds;
        named = m.named;
        ranged = m.ranged;
        prefixed = a.prefixed;
        written = a.written ∙ ap (λ c. line_of c text) m.is ∙ ap (join_with_byte space) (words_made m.verb m.holder arcs text m.numbers m.ranged);
      };
      same = λ k. record {
        call = m.is k;
        offset = (a.placed ∙ ap (λ c. length (front_of c)) m.is ∙ ap length (front_made m.verb m.holder arcs m.numbers m.ranged)) k;
      };
    }

-- so it is read exactly when it asks
pub reads_exactly : (line : List ℕ) (answer : Result Reading Fault) → answer ≡ read_line line → ReadsExactly line answer
reads_exactly line answer value reading = (
  λ is.
      let f = read_written line reading (sym value ∙ is) in
      subst (Asks line) (sym f.same) (written_asks line f.verb f.holder f.before f.arcs f.numbers f.is_written),
  λ asks.
      let f = asks_written line reading asks in
      value ∙ written_read line f.verb f.holder f.before f.arcs f.numbers f.is_written ∙ ap Ok (sym f.same),
)
