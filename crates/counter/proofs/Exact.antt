-- A line is read as a call exactly when it makes it.
use Rattle.std.proofs.Common.{◌≡◌, ℕ, ◌+◌, ◌<◌, ◌^◌, ◌⊎◌, inl, true, cond, leb, List, [], ◌∷◌, ◌++◌, length, Some, None, Ok, Err, Option, Result, decimal, option_and_then, refl, sym, ap, ◌∙◌, subst, arith}
use Rattle.std.specs.List.{join_with_byte, list_all}
use Rattle.std.specs.Option.{ok_or}
use Rattle.std.specs.Result.{result_map_both}
use Rattle.std.proofs.lemmas.Bool.{and_parts, and_from, cond-true, leb-true}
use Rattle.std.proofs.lemmas.List.Splits.{join_with_byte-slice_split}
use Rattle.std.proofs.lemmas.Option.{cond_some, option_and_then_some}
use Rattle.oid.specs.Refusals.{fault_at}
use Rattle.oid.specs.Tree.{is_identifier}
use Rattle.oid.specs.declared.refusal.Fault.{Fault}
use Rattle.dotted.specs.Pieces.{numeral}
use Rattle.dotted.specs.Prefix.{prefix}
use Rattle.dotted.specs.Reading.{read_dotted}
use Rattle.dotted.specs.Writing.{dotted_text}
use Rattle.request.specs.Fields.{space, words, Part, parts_from}
use Rattle.request.proofs.FromWords.{identifier_read}
use Rattle.request.proofs.Spelled.{visible, words_joined, some_words, decimal_visible, identifier_visible, numeral_read, numeral_written, told_written}
use Rattle.request.proofs.ToWords.{identifier_written}
use Rattle.request.proofs.Walking.{part}
use Rattle.counter.specs.Calls.{Call, collect, accept, decline, terms, left, tells}
use Rattle.counter.specs.Lines.{entry_of, call_words, is_call, Makes, ReadExactly}
use Rattle.counter.specs.Names.{names, name_text, name_of}
use Rattle.counter.specs.Reading.{and_then, most_number, name_in, number_in, identifier_in, entry_in, call_by, call_in, read_call}
use Rattle.counter.specs.declared.name.Name.{Name}
use Rattle.counter.specs.declared.name.Name.TheVariants.{Collect, Accept, Decline, Terms, Left, Tells}
use Rattle.counter.specs.declared.no_call.NoCall.{NoCall}
use Rattle.counter.specs.declared.no_call.NoCall.TheVariants.{UnknownName, NotANumber, NotAnIdentifier}

-- nothing or the prefix
abbrev IsBefore : List ℕ → Type 0
IsBefore before = (before ≡ []) ⊎ (before ≡ prefix)

-- a number of 32 bits is read from its decimal text
number_fits : (number : ℕ) → leb number most_number ≡ true → number < 2 ^ 64
number_fits number h = omega (arith, leb-true number most_number h)

number_read : (offset number : ℕ) → leb number most_number ≡ true → number_in (part offset (decimal number)) ≡ Ok number
number_read offset number h =
    ap (λ o. ok_or (option_and_then (λ n. cond (leb n most_number) (Some n) None) o) (NotANumber offset)) (numeral_read number (number_fits number h))
    ∙ ap (λ o. ok_or o (NotANumber offset)) (cond-true (leb number most_number) _ None h)

-- an entry is read from its text
entry_read : (offset : ℕ) (before entry : List ℕ) → IsBefore before → is_identifier entry ≡ true
    → identifier_in (part offset (before ++ dotted_text entry)) ≡ Ok entry
entry_read offset before entry p h = ap (result_map_both (λ arcs. arcs) _) (identifier_read before entry p h)

-- a call's words have no spaces
words_visible : (call : Call) (before : List ℕ) → IsBefore before → is_call call ≡ true
    → list_all visible (call_words call (before ++ dotted_text (entry_of call))) ≡ true
words_visible (collect taker entry) before p h =
    let both = and_parts (leb taker most_number) _ h in
    and_from (visible (decimal taker)) _ (decimal_visible taker (number_fits taker both.0))
    (and_from (visible (before ++ dotted_text entry)) _ (identifier_visible before entry p both.1) refl)
words_visible (accept entry) before p h = and_from (visible (before ++ dotted_text entry)) _ (identifier_visible before entry p h) refl
words_visible (decline entry) before p h = and_from (visible (before ++ dotted_text entry)) _ (identifier_visible before entry p h) refl
words_visible (terms entry) before p h = and_from (visible (before ++ dotted_text entry)) _ (identifier_visible before entry p h) refl
words_visible (left entry) before p h = and_from (visible (before ++ dotted_text entry)) _ (identifier_visible before entry p h) refl
words_visible tells before p h = refl

-- and are read as the call
words_read : (call : Call) (before : List ℕ) → IsBefore before → is_call call ≡ true
    → call_in (parts_from 0 (call_words call (before ++ dotted_text (entry_of call)))) ≡ Ok call
unfolding parts_from
words_read (collect taker entry) before p h =
    let both = and_parts (leb taker most_number) _ h in
    let place = length (name_text Collect) + 1 + length (decimal taker) + 1 in
    let field = part place (before ++ dotted_text entry) in
    ap (λ r. and_then r (λ n. and_then (identifier_in field) (λ e. Ok (collect n e)))) (number_read _ taker both.0)
    ∙ ap (λ r. and_then r (λ e. Ok (collect taker e))) (entry_read place before entry p both.1)
words_read (accept entry) before p h = ap (λ r. and_then r (λ e. Ok (accept e))) (entry_read _ before entry p h)
words_read (decline entry) before p h = ap (λ r. and_then r (λ e. Ok (decline e))) (entry_read _ before entry p h)
words_read (terms entry) before p h = ap (λ r. and_then r (λ e. Ok (terms e))) (entry_read _ before entry p h)
words_read (left entry) before p h = ap (λ r. and_then r (λ e. Ok (left e))) (entry_read _ before entry p h)
words_read tells before p h = refl

-- each call has a first word
call_joined : (call : Call) (text : List ℕ) → list_all visible (call_words call text) ≡ true
    → words (join_with_byte space (call_words call text)) ≡ call_words call text
call_joined (collect taker entry) text h = words_joined _ _ h
call_joined (accept entry) text h = words_joined _ _ h
call_joined (decline entry) text h = words_joined _ _ h
call_joined (terms entry) text h = words_joined _ _ h
call_joined (left entry) text h = words_joined _ _ h
call_joined tells text h = words_joined _ _ h

-- so a line that makes a call is read as it
made_read : (line : List ℕ) (call : Call) → Makes line call → read_call line ≡ Ok call
made_read line call m =
    let text = m.prefix_or_none ++ dotted_text (entry_of call) in
    ap (λ l. call_in (parts_from 0 (words l))) m.written
    ∙ ap (λ l. call_in (parts_from 0 l)) (call_joined call text (words_visible call m.prefix_or_none m.prefixed m.ranged))
    ∙ words_read call m.prefix_or_none m.prefixed m.ranged

-- what a reading that ended well came through: something that was read
came : {A B : Type 0} (found : Result A NoCall) (others : A → Result B NoCall) (value : B) → and_then found others ≡ Ok value
    → (thing : A) × (found ≡ Ok thing) × (others thing ≡ Ok value)
came (Ok thing) others value is = (thing, refl, is)
came (Err no_call) others value is = absurd (cc)

same_ok : {A : Type 0} (one other : A) → ◌≡◌ {A = Result A NoCall} (Ok one) (Ok other) → one ≡ other
same_ok one other is = cc

there : {A : Type 0} (found : Option A) (no_call : NoCall) (thing : A) → ok_or found no_call ≡ Ok thing → found ≡ Some thing
there None no_call thing is = absurd (cc)
there (Some other) no_call thing is = cc

-- a field that is read as a number has its text
number_is : (field : Part) (number : ℕ) → number_in field ≡ Ok number → (leb number most_number ≡ true) × (field.text ≡ decimal number)
number_is field number is =
    option_and_then_some (λ n. cond (leb n most_number) (Some n) None) (numeral field.text) number (there _ (NotANumber field.offset) number is) (λ n read e.
    let inside = cond_some (leb n most_number) n number e in
    let small : leb number most_number ≡ true = ap (λ m. leb m most_number) (sym inside.1) ∙ inside.0 in
    (small, numeral_written field.text number (read ∙ ap Some inside.1) (number_fits number small)))

-- a field that is read as an entry has its text
record IsEntry (text entry : List ℕ) : Type 0 where
  named : is_identifier entry ≡ true
  before : List ℕ
  prefixed : IsBefore before
  text_is : text ≡ before ++ dotted_text entry

entry_is : (field : Part) (entry : List ℕ) → identifier_in field ≡ Ok entry → IsEntry field.text entry
entry_is field entry is =
    let w = identifier_written field.text entry (go (read_dotted field.text) is) in
    record { named = w.0; before = w.1.0; prefixed = w.1.1; text_is = w.1.2 }
  where
    go : (found : Result (List ℕ) Fault)
        → result_map_both (λ arcs. arcs) (λ fault. NotAnIdentifier (fault_at fault.refusal (field.offset + fault.offset))) found ≡ Ok entry
        → found ≡ Ok entry
    go (Ok arcs) e = cc
    go (Err fault) e = absurd (cc)

-- A name and the words behind it are those of a call.
record Told (name : Name) (others : List (List ℕ)) (call : Call) : Type 0 where
  ranged : is_call call ≡ true
  before : List ℕ
  prefixed : IsBefore before
  words_are : name_text name ∷ others ≡ call_words call (before ++ dotted_text (entry_of call))

-- the only field is the entry's
one_is : (name : Name) (offset : ℕ) (others : List (List ℕ)) (entry : List ℕ) → entry_in name (parts_from offset others) ≡ Ok entry
    → (text : List ℕ) × (others ≡ text ∷ []) × IsEntry text entry
unfolding parts_from
one_is name offset [] entry is = absurd (cc)
one_is name offset (text ∷ []) entry is = (text, refl, entry_is (part offset text) entry is)
one_is name offset (text ∷ next ∷ more) entry is = absurd (cc)

-- a call that takes an entry alone
one_told : (name : Name) (make : List ℕ → Call) (offset : ℕ) (others : List (List ℕ)) (call : Call)
    → ((entry : List ℕ) → is_call (make entry) ≡ is_identifier entry) → ((entry : List ℕ) → entry_of (make entry) ≡ entry)
    → ((entry text : List ℕ) → call_words (make entry) text ≡ name_text name ∷ text ∷ [])
    → and_then (entry_in name (parts_from offset others)) (λ entry. Ok (make entry)) ≡ Ok call → Told name others call
one_told name make offset others call good named written is =
    let e = came (entry_in name (parts_from offset others)) (λ entry. Ok (make entry)) call is in
    let o = one_is name offset others e.0 e.1 in
    let h = o.2 in
    subst (Told name others) (same_ok (make e.0) call e.2) (record {
      ranged = good e.0 ∙ h.named;
      before = h.before;
      prefixed = h.prefixed;
      words_are = ap (λ l. name_text name ∷ l) o.1
          ∙ ap (λ t. name_text name ∷ t ∷ []) (h.text_is ∙ ap (λ l. h.before ++ dotted_text l) (sym (named e.0)))
          ∙ sym (written e.0 (h.before ++ dotted_text (entry_of (make e.0))));
    })

-- a call that takes a number too
collect_told : (offset : ℕ) (others : List (List ℕ)) (call : Call) → call_by Collect (parts_from offset others) ≡ Ok call → Told Collect others call
unfolding parts_from
collect_told offset [] call is = absurd (cc)
collect_told offset (number ∷ []) call is = absurd (cc)
collect_told offset (number ∷ text ∷ next ∷ more) call is = absurd (cc)
collect_told offset (number ∷ text ∷ []) call is =
    let n = came (number_in (part offset number)) _ call is in
    let e = came (identifier_in (part (offset + length number + 1) text)) (λ entry. Ok (collect n.0 entry)) call n.2 in
    let taker = number_is (part offset number) n.0 n.1 in
    let h = entry_is (part (offset + length number + 1) text) e.0 e.1 in
    subst (Told Collect (number ∷ text ∷ [])) (same_ok (collect n.0 e.0) call e.2) (record {
      ranged = and_from (leb n.0 most_number) _ taker.0 h.named;
      before = h.before;
      prefixed = h.prefixed;
      words_are = λ k. name_text Collect ∷ taker.1 k ∷ h.text_is k ∷ [];
    })

tells_told : (offset : ℕ) (others : List (List ℕ)) (call : Call) → call_by Tells (parts_from offset others) ≡ Ok call → Told Tells others call
unfolding parts_from
tells_told offset [] call is =
    subst (Told Tells []) (same_ok tells call is) (record { ranged = refl; before = []; prefixed = inl refl; words_are = refl })
tells_told offset (text ∷ more) call is = absurd (cc)

told : (name : Name) (offset : ℕ) (others : List (List ℕ)) (call : Call) → call_by name (parts_from offset others) ≡ Ok call → Told name others call
told Collect offset others call is = collect_told offset others call is
told Accept offset others call is = one_told Accept accept offset others call (λ e. refl) (λ e. refl) (λ e t. refl) is
told Decline offset others call is = one_told Decline decline offset others call (λ e. refl) (λ e. refl) (λ e t. refl) is
told Terms offset others call is = one_told Terms terms offset others call (λ e. refl) (λ e. refl) (λ e t. refl) is
told Left offset others call is = one_told Left left offset others call (λ e. refl) (λ e. refl) (λ e t. refl) is
told Tells offset others call is = tells_told offset others call is

-- so a line that is read as a call makes it
read_made : (line : List ℕ) (call : Call) → read_call line ≡ Ok call → Makes line call
unfolding parts_from
read_made line call is =
    let w = some_words line in
    let n = came (name_in (part 0 w.0)) (λ name. call_by name (parts_from (0 + length w.0 + 1) w.1)) call (ap (λ l. call_in (parts_from 0 l)) (sym w.2) ∙ is) in
    let t = told n.0 (0 + length w.0 + 1) w.1 call n.2 in
    let name = told_written name_text names w.0 n.0 (there (name_of w.0) UnknownName n.0 n.1) in
    record {
      ranged = t.ranged;
      prefix_or_none = t.before;
      prefixed = t.prefixed;
      written = sym (join_with_byte-slice_split space line)
          ∙ ap (join_with_byte space) (w.2 ∙ ap (λ l. l ∷ w.1) (sym name) ∙ t.words_are);
    }

pub read_exactly : ReadExactly
read_exactly line call = (read_made line call, made_read line call)
