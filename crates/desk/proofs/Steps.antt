-- A line, or none, from one state to the next.
use Rattle.std.proofs.Common.{◌≡◌, ℕ, ◌+◌, cond, Bool, true, false, List, [], ◌∷◌, ◌++◌, take, None, Some, Ok, Err, OnOk, Option, Result, refl, sym, ap, ◌∙◌, subst}
use Rattle.std.specs.Io.KnownBytes.{Appends, Keeps, append_known}
use Rattle.arc_rules.specs.Rules.{Meaning}
use Rattle.book.specs.Book.{Book}
use Rattle.book.specs.Runs.{line, back_at, made_by, after_made}
use Rattle.counter.specs.Calls.{Call}
use Rattle.counter.specs.Reading.{is_counter, read_call}
use Rattle.counter.specs.declared.no_call.NoCall.{NoCall}
use Rattle.hall.specs.Served.{printed, LineServed}
use Rattle.input.specs.Limits.{line_limit, line_feed}
use Rattle.register.specs.Registers.{refusal_of, KeepsRest}
use Rattle.request.specs.RequestLines.{request_lines}
use Rattle.runs.specs.Desks.{register_of, book_at, rules_at}
use Rattle.runs.specs.declared.desk.Desk.{Desk}
use Rattle.runs.proofs.Progress.{same_rules}
use Rattle.desk.specs.Answers.{told_at, book_after}
use Rattle.desk.specs.Lines.{State, goes_on, counter_served, request_served, kept, served}
use Rattle.desk.specs.States.{Has, IsAt}
use Rattle.desk.specs.Told.{told_text}
use Rattle.desk.specs.declared.told.Told.{Told}

-- known bytes, and more
grown : (bytes more : List ℕ) (after : Option (List ℕ)) → Appends (Some bytes) after more → after ≡ Some (bytes ++ more)
grown bytes more None is = absurd is
grown bytes more (Some all) is = ap Some is

has_more : (contents after output : Option (List ℕ)) (more : List ℕ) → Has contents output → Appends contents after more → Has after (append_known output more)
has_more contents after None more has appends = tt
has_more contents after (Some bytes) more has appends = grown bytes more after (subst (λ c. Appends c after more) has appends)

same_bytes : (bytes : List ℕ) (after : Option (List ℕ)) → Keeps (Some bytes) after → after ≡ Some bytes
same_bytes bytes None is = absurd is
same_bytes bytes (Some all) is = ap Some is

pub has_kept : (contents after output : Option (List ℕ)) → Has contents output → Keeps contents after → Has after output
has_kept contents after None has keeps = tt
has_kept contents after (Some bytes) has keeps = same_bytes bytes after (subst (λ c. Keeps c after) has keeps)

-- a writer has what it has
pub has_itself : (contents : Option (List ℕ)) → Has contents contents
has_itself None = tt
has_itself (Some bytes) = refl

-- what holds where a result is a yes, by the yes
pub on_ok_by : {Done Error Q : Type 0} (r : Result Done Error) → ((done : Done) → r ≡ Ok done → Q) → OnOk r Q
on_ok_by (Ok done) by = by done refl
on_ok_by (Err error) by = tt

pub ok_gives : {Done Error Q : Type 0} (r : Result Done Error) (done : Done) → r ≡ Ok done → OnOk r Q → Q
ok_gives {Q = Q} r done is holds = subst (λ r. OnOk r Q) is holds

module _ {P A : Type 0} (panels : P → Meaning) (authorities : A → Meaning) (before after : Desk P A) (page_length page_after : ℕ)
    (contents contents_after : Option (List ℕ)) (state : State) (at : IsAt panels authorities before page_length contents state) where
  -- a desk that keeps the rest of its register, at another book, and more that was written
  gone_on : KeepsRest (register_of before) (register_of after) → page_after ≡ page_length → (book : Book) (answer : List ℕ)
      → book_at after ≡ book → Appends contents contents_after answer
      → IsAt panels authorities after page_after contents_after (goes_on state book answer)
  gone_on rest long book answer leaves appends = record {
    rules = sym (same_rules panels authorities before after rest) ∙ at.rules;
    refusal = rest.refusal ∙ at.refusal;
    page = long ∙ at.page;
    book = leaves;
    output = has_more contents contents_after state.output answer at.output appends;
  }

  module _ (rest : KeepsRest (register_of before) (register_of after)) (long : page_after ≡ page_length) (bytes : List ℕ) where
    -- a counter call
    module _ (is : is_counter (kept bytes) ≡ true) (told : Told)
        (answered : told ≡ told_at (rules_at panels authorities before) (refusal_of (register_of before)) (book_at before) (read_call (kept bytes)))
        (leaves : book_at after ≡ book_after (rules_at panels authorities before) (book_at before) (read_call (kept bytes))) where
      pub counter_book : book_at after ≡ (served state bytes).book
      counter_book =
          leaves ∙ (λ i. book_after (at.rules i) (at.book i) (read_call (kept bytes)))
          ∙ sym (ap (λ b. (cond b (counter_served state (read_call (kept bytes))) (request_served state bytes)).book) is)

      pub counter_at : Appends contents contents_after (told_text told ++ line_feed ∷ [])
          → IsAt panels authorities after page_after contents_after (served state bytes)
      counter_at appends =
          let text = ap (λ told. told_text told ++ line_feed ∷ [])
          (answered ∙ (λ i. told_at (at.rules i) (at.refusal i) (at.book i) (read_call (kept bytes)))) in
          subst (λ b. IsAt panels authorities after page_after contents_after (cond b (counter_served state (read_call (kept bytes))) (request_served state bytes))) (sym is)
          (gone_on rest long (book_after state.rules state.book (read_call (kept bytes))) _
          (leaves ∙ (λ i. book_after (at.rules i) (at.book i) (read_call (kept bytes)))) (subst (Appends contents contents_after) text appends))

    -- a request line
    module _ {Done Error : Type 0} (is : is_counter (kept bytes) ≡ false) (writing : Result Done Error)
        (by_desk : LineServed (rules_at panels authorities before) (book_at before) bytes page_length (book_at after) writing contents contents_after) where
      request_leaves : book_at after ≡ after_made state.rules state.book (made_by request_lines (line bytes state.page_length))
      request_leaves =
          by_desk.serves.leaves ∙ (λ i. after_made (at.rules i) (at.book i) (made_by request_lines (line bytes (at.page i))))

      pub request_book : book_at after ≡ (served state bytes).book
      request_book =
          request_leaves ∙ sym (ap (λ b. (cond b (counter_served state (read_call (kept bytes))) (request_served state bytes)).book) is)

      pub request_at : Appends contents contents_after (printed by_desk.back)
          → IsAt panels authorities after page_after contents_after (served state bytes)
      request_at appends =
          let text = ap printed (by_desk.serves.answered ∙ (λ i. back_at request_lines (at.rules i) (at.book i) (line bytes (at.page i)))) in
          subst (λ b. IsAt panels authorities after page_after contents_after (cond b (counter_served state (read_call (kept bytes))) (request_served state bytes))) (sym is)
          (gone_on rest long _ _ request_leaves (subst (Appends contents contents_after) text appends))
