-- What a roll shows of a child can be told from its line, which is no line that ends a roll.
use Rattle.std.proofs.Common.{◌≡◌, ℕ, ◌^◌, ◌<◌, Bool, true, false, cond, eqb, List, [], ◌∷◌, ◌++◌, length, find, Some, None, Option, decimal, refl, sym, ap, ◌∙◌, append-nil, arith}
use Rattle.std.specs.Cmp.Lexicographic.{pointwise}
use Rattle.std.specs.List.{list_all}
use Rattle.std.specs.Str.{all_ascii_digits}
use Rattle.std.proofs.lemmas.Bool.{and_parts, and_from, both_ways, cond-true}
use Rattle.std.proofs.lemmas.Fmt.{decimal_injective, decimal_nonempty}
use Rattle.std.proofs.lemmas.Option.{same_Some}
use Rattle.dotted.specs.Form.{is_digit, begins_with_digit}
use Rattle.dotted.proofs.Spelling.{digits_of}
use Rattle.book.specs.Kinds.{is_authority}
use Rattle.book.specs.declared.kind.Kind.{Kind}
use Rattle.book.specs.declared.kind.Kind.TheVariants.{Panel, Retired, Offered, InHand, Open, Declined}
use Rattle.request.specs.Answers.{kind_word, shown_words, child_line, last_line, text_line}
use Rattle.request.specs.Fields.{space}
use Rattle.request.specs.ReadBack.{first_words, Within64Bits, ShownAlike, ChildLinesApart}
use Rattle.request.specs.declared.child.Child.{Child}
use Rattle.request.proofs.Lined.{lined}
use Rattle.request.proofs.Spelled.{visible, decimal_visible}

-- each kind's word is visible
kind_visible : (kind : Kind) → visible (kind_word kind) ≡ true
kind_visible Panel = refl
kind_visible Retired = refl
kind_visible Offered = refl
kind_visible InHand = refl
kind_visible Open = refl
kind_visible Declined = refl

-- and tells the kind
kind_of : List ℕ → Option Kind
kind_of word = find (λ kind. pointwise eqb (kind_word kind) word) (Panel ∷ Retired ∷ Offered ∷ InHand ∷ Open ∷ Declined ∷ [])

kind_found : (kind : Kind) → kind_of (kind_word kind) ≡ Some kind
unfolding kind_of
kind_found Panel = refl
kind_found Retired = refl
kind_found Offered = refl
kind_found InHand = refl
kind_found Open = refl
kind_found Declined = refl

same_kind : (one other : Kind) → kind_word one ≡ kind_word other → one ≡ other
same_kind one other is = same_Some _ _ (sym (kind_found one) ∙ ap kind_of is ∙ kind_found other)

-- the words of a child's line
child_words : (child : Child) → Within64Bits child → first_words (child_line child) ≡ decimal child.arc ∷ shown_words child
child_words child f =
    ap first_words (sym (append-nil (child_line child)))
    ∙ lined (decimal child.arc) (shown_words child) []
    (and_from (visible (decimal child.arc)) _ (decimal_visible child.arc f.arc)
    (and_from (visible (kind_word child.kind)) _ (kind_visible child.kind) (numbers (is_authority child.kind))))
  where
    both : list_all visible (decimal child.holder ∷ decimal child.quota ∷ []) ≡ true
    both = and_from (visible (decimal child.holder)) _ (decimal_visible child.holder f.holder) (and_from (visible (decimal child.quota)) _ (decimal_visible child.quota f.quota) refl)

    numbers : (v : Bool) → list_all visible (cond v (decimal child.holder ∷ decimal child.quota ∷ []) []) ≡ true
    numbers true = both
    numbers false = refl

-- what is shown of an authority behind its kind
abbrev number_fields_of : Child → List (List ℕ)
number_fields_of child = cond (is_authority child.kind) (decimal child.holder ∷ decimal child.quota ∷ []) []

shown : (child : Child) → is_authority child.kind ≡ true → number_fields_of child ≡ decimal child.holder ∷ decimal child.quota ∷ []
shown child e = cond-true (is_authority child.kind) _ _ e

-- two lists that are equal have the same first word and the same others
same_first : (word other : List ℕ) (words others : List (List ℕ)) → word ∷ words ≡ other ∷ others → (word ≡ other) × (words ≡ others)
same_first word other words others is = (cc, cc)

-- children with the same words are shown alike
alike : (one other : Child) → Within64Bits one → Within64Bits other → decimal one.arc ∷ shown_words one ≡ decimal other.arc ∷ shown_words other → ShownAlike one other
alike one other f g is = record {
  arc = decimal_injective one.arc other.arc f.arc g.arc arcs.0;
  kind = same;
  holder = λ e. decimal_injective one.holder other.holder f.holder g.holder (numbers e).0;
  quota = λ e. decimal_injective one.quota other.quota f.quota g.quota (same_first _ _ _ _ (numbers e).1).0;
}
  where
    arcs : (decimal one.arc ≡ decimal other.arc) × (shown_words one ≡ shown_words other)
    arcs = same_first _ _ _ _ is

    kinds : (kind_word one.kind ≡ kind_word other.kind) × (number_fields_of one ≡ number_fields_of other)
    kinds = same_first _ _ _ _ arcs.1

    same : one.kind ≡ other.kind
    same = same_kind one.kind other.kind kinds.0

    numbers : is_authority one.kind ≡ true → (decimal one.holder ≡ decimal other.holder) × (decimal one.quota ∷ [] ≡ decimal other.quota ∷ [])
    numbers e = same_first _ _ _ _ (sym (shown one e) ∙ kinds.1 ∙ shown other (ap is_authority (sym same) ∙ e))

-- a number's text begins with a digit, whatever follows it
number_begins : (n : ℕ) (bytes : List ℕ) → n < 2 ^ 64 → begins_with_digit (decimal n ++ bytes) ≡ true
number_begins n bytes h = go (decimal n) (decimal_nonempty n h) (digits_of n h)
  where
    go : (digits : List ℕ) → 0 < length digits → all_ascii_digits digits ≡ true → begins_with_digit (digits ++ bytes) ≡ true
    go [] some all = absurd (omega arith)
    go (byte ∷ digits) some all = (and_parts (is_digit byte) (all_ascii_digits digits) all).0

-- a line that ends a roll does not
last_begins : (next : Option ℕ) → begins_with_digit (last_line next) ≡ false
last_begins None = refl
last_begins (Some arc) = refl

pub child_lines_apart : ChildLinesApart
child_lines_apart = record {
  alike = λ one other h k is. alike one other h k (sym (child_words one h) ∙ ap first_words is ∙ child_words other k);
  no_last = λ child next h is.
      let begins = number_begins child.arc (space ∷ text_line (shown_words child)) h.arc in
      both_ways (begins_with_digit (last_line next)) (last_begins next) (ap begins_with_digit (sym is) ∙ begins);
}
