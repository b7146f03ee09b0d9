-- The laws of dotted text.
use Rattle.std.proofs.Common.{◌≡◌, ℕ, ◌+◌, ◌<◌, ◌≤◌, Bool, true, false, cond, List, [], ◌∷◌, ◌++◌, length, drop, Some, None, Ok, Err, decimal, Option, Result, sym, refl, ap, ◌∙◌, subst, arith}
use Rattle.std.specs.Str.{all_ascii_digits}
use Rattle.std.proofs.lemmas.Fmt.{decimal_nonempty}
use Rattle.std.proofs.lemmas.List.{drop_at, length-append}
use Rattle.std.proofs.lemmas.Bool.{and_parts, both_ways, cond-true}
use Rattle.oid.specs.Arcs.{is_arc}
use Rattle.oid.specs.Refusals.{fault_at, answered, filled}
use Rattle.oid.specs.declared.refusal.Fault.{Fault}
use Rattle.oid.specs.declared.refusal.Refusal.TheVariants.{NotDotted}
use Rattle.oid.proofs.Numbers.{never_malformed}
use Rattle.oid.specs.Tree.{all_arcs, is_identifier, begins_with}
use Rattle.oid.proofs.Tree.{begins_front, front_begins, keeps}
use Rattle.dotted.specs.Form.{is_digit, begins_with_digit, faulty}
use Rattle.dotted.specs.Laws.{Writes, Exactly, OneText, read_further, PrefixMovesFaults, Prefixed, FirstMisfit, MalformedAtFirst}
use Rattle.dotted.specs.Prefix.{prefix, prefix_length}
use Rattle.dotted.specs.Reading.{read_from, read_dotted}
use Rattle.dotted.specs.Writing.{dotted_text}
use Rattle.dotted.proofs.Accepting.{read_text, text_read}
use Rattle.dotted.proofs.Misfits.{first_misfit}
use Rattle.dotted.proofs.Moving.{read_moved}
use Rattle.dotted.proofs.Reading.{read_malformed, read_formed}
use Rattle.dotted.proofs.Spelling.{digits_of}
use Rattle.dotted.proofs.Texts.{later_arcs, arc_fits}

-- a text is read as some arcs exactly when it is their text, after any prefix
pub accepts : (text arcs : List ℕ) → (read_dotted text ≡ Ok arcs → Writes text arcs) × (Writes text arcs → read_dotted text ≡ Ok arcs)
unfolding read_dotted
accepts text arcs = (
  text_read (drop (prefix_length text) text) (prefix_length text) arcs,
  λ writes. ap (read_from (prefix_length text)) writes.1 ∙ read_text arcs (prefix_length text) writes.0,
)

-- a text without a prefix is all there is to read
plain : (text : List ℕ) → prefix_length text ≡ 0 → read_dotted text ≡ read_from 0 text
unfolding read_dotted
plain text e = ap (λ n. read_from n (drop n text)) e

pub prefix_moves_faults : PrefixMovesFaults
unfolding read_dotted prefix_length
prefix_moves_faults rest p =
    let begins : prefix_length (prefix ++ rest) ≡ length prefix =
    cond-true (begins_with (prefix ++ rest) prefix) _ _ (front_begins prefix rest) in
    let start : length prefix ≡ 0 + length prefix = omega arith in
    ap (λ n. read_from n (drop n (prefix ++ rest))) begins
    ∙ ap (read_from (length prefix)) (drop_at prefix rest (length prefix) refl)
    ∙ ap (λ n. read_from n rest) start
    ∙ read_moved (length prefix) rest 0
    ∙ ap (read_further (length prefix)) (sym (plain rest p))

pub prefix_within : (text : List ℕ) → prefix_length text ≤ length text
unfolding prefix_length
prefix_within text = go (begins_with text prefix) refl
  where
    go : (v : Bool) → begins_with text prefix ≡ v → cond v (length prefix) 0 ≤ length text
    go true e = omega (arith, ap length (begins_front text prefix e) ∙ length-append prefix (drop (length prefix) text))
    go false e = omega arith

-- where a reading was ended
abbrev offset_in : Result (List ℕ) Fault → ℕ
offset_in (Ok arcs) = 0
offset_in (Err fault) = fault.offset

malformed : (text : List ℕ) (at : ℕ) → read_dotted text ≡ Err (fault_at NotDotted at) → FirstMisfit text (prefix_length text) at
malformed text at e = go (faulty (prefix_length text) (drop (prefix_length text) text)) refl
  where
    go : (o : Option ℕ) → faulty (prefix_length text) (drop (prefix_length text) text) ≡ o
        → FirstMisfit text (prefix_length text) at
    go (Some k) same =
        let here : k ≡ at = ap offset_in (sym (read_malformed text (prefix_length text) refl k (sym same)) ∙ e) in
        first_misfit text (prefix_length text) (prefix_within text) at (same ∙ ap Some here)
    go None same = absurd (never_malformed _ at (sym (read_formed text (prefix_length text) refl (sym same)) ∙ e))

-- what a reader owes of a text: with `before` in the caller's identifier it gave `answer`, and left `arcs` there
pub record Owed (text before : List ℕ) (answer : Result (Unit {0}) Fault) (arcs : List ℕ) : Type 0 where
  pub value : answer ≡ answered (read_dotted text)
  pub after : arcs ≡ filled (read_dotted text) before
  pub exactly : Exactly text answer arcs
  pub prefixed : Prefixed text answer
  pub first : MalformedAtFirst text answer

-- it owes nothing more if its answer is the reading's
pub owed : (text before : List ℕ) (answer : Result (Unit {0}) Fault) (arcs : List ℕ) (reading : Result (List ℕ) Fault)
    → read_dotted text ≡ reading → answer ≡ answered reading → arcs ≡ filled reading before
    → Owed text before answer arcs
owed text before answer arcs reading is value after = record {
  value = value ∙ sym (ap answered is);
  after = after ∙ sym (ap (λ r. filled r before) is);
  exactly = (λ e. to reading is after (sym value ∙ e), λ others writes. from others (sym is ∙ (accepts text others).1 writes));
  prefixed = λ rest p e. value ∙ ap answered (sym is ∙ ap read_dotted e ∙ prefix_moves_faults rest p);
  first = λ at e. malformed text at (is ∙ told reading at (sym value ∙ e));
}
  where
    to : (r : Result (List ℕ) Fault) → read_dotted text ≡ r → arcs ≡ filled r before → answered r ≡ Ok tt → Writes text arcs
    to (Ok found) same left e = subst (Writes text) (sym left) ((accepts text found).0 same)
    to (Err fault) same left e = absurd (cc)

    from : (others : List ℕ) → reading ≡ Ok others → (answer ≡ Ok tt) × (arcs ≡ others)
    from others same = (value ∙ ap answered same, after ∙ ap (λ r. filled r before) same)

    told : (r : Result (List ℕ) Fault) (at : ℕ) → answered r ≡ Err (fault_at NotDotted at) → r ≡ Err (fault_at NotDotted at)
    told (Ok found) at e = absurd (cc)
    told (Err fault) at e = cc

-- a text without a prefix that is read as some arcs is their text
pub written_as : (text arcs : List ℕ) → prefix_length text ≡ 0 → read_dotted text ≡ Ok arcs → text ≡ dotted_text arcs
written_as text arcs p r = (text_read text 0 arcs (sym (plain text p) ∙ r)).1

pub one_text : OneText
one_text one other arcs p q r s =
    let first = (text_read one 0 arcs (sym (plain one p) ∙ r)).1 in
    let second = (text_read other 0 arcs (sym (plain other q) ∙ s)).1 in
    first ∙ sym second

-- digits begin with a digit, whatever follows them
digits_begin : (digits rest : List ℕ) → all_ascii_digits digits ≡ true → 0 < length digits → begins_with_digit (digits ++ rest) ≡ true
digits_begin [] rest all some = absurd (omega arith)
digits_begin (byte ∷ digits) rest all some = (and_parts (is_digit byte) (all_ascii_digits digits) all).0

-- an identifier's text begins with a digit
pub text_begins : (arcs : List ℕ) → is_identifier arcs ≡ true → begins_with_digit (dotted_text arcs) ≡ true
unfolding dotted_text all_arcs
text_begins arcs h = go arcs (keeps arcs h).long (keeps arcs h).each
  where
    go : (list : List ℕ) → 2 ≤ length list → all_arcs list ≡ true → begins_with_digit (dotted_text list) ≡ true
    go [] long each = absurd (omega arith)
    go (arc ∷ list) long each =
        let fits = arc_fits arc (and_parts (is_arc arc) (all_arcs list) each).0 in
        digits_begin (decimal arc) (later_arcs list) (digits_of arc fits) (decimal_nonempty arc fits)

-- what begins with a digit has no prefix
pub no_prefix : (text : List ℕ) → begins_with_digit text ≡ true → prefix_length text ≡ 0
unfolding prefix_length prefix
no_prefix text digit = go (begins_with text prefix) refl
  where
    go : (v : Bool) → begins_with text prefix ≡ v → cond v (length prefix) 0 ≡ 0
    go true e = absurd (both_ways (begins_with_digit text) (ap begins_with_digit (begins_front text prefix e)) digit)
    go false e = refl

-- the text of an identifier is read as that identifier
pub reads_back : (arcs : List ℕ) → is_identifier arcs ≡ true → read_dotted (dotted_text arcs) ≡ Ok arcs
reads_back arcs h = plain (dotted_text arcs) (no_prefix (dotted_text arcs) (text_begins arcs h)) ∙ read_text arcs 0 h
