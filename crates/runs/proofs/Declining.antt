-- A desk that is being closed: it declines with one Grant after the other, and each decline passes.
use Rattle.std.proofs.Common.{◌≡◌, ℕ, ◌+◌, List, [], ◌∷◌, ◌++◌, length, refl, sym, ap, ◌∙◌, subst, arith}
use Rattle.std.specs.List.{count_by, All}
use Rattle.std.proofs.lemmas.List.{length_push, map-append}
use Rattle.std.proofs.lemmas.List.Elements.{All-nil, All-push}
use Rattle.oid.specs.Meaning.{arcs_of}
use Rattle.book.specs.Book.{Book}
use Rattle.book.specs.Rulings.{Answer, refused, named}
use Rattle.book.specs.Questions.{Rules}
use Rattle.book.specs.Runs.{declines_grant, done, handed_back, Exchange, Serves, Runs, book_at_end}
use Rattle.book.specs.declared.event.Event.TheVariants.{DeclineGrant}
use Rattle.book.specs.declared.refusal.Refusal.{Refusal}
use Rattle.book.proofs.Longer.{runs_more, end_more}
use Rattle.request.specs.RequestLines.{request_lines}
use Rattle.register.specs.Granted.{grant_of, Spends}
use Rattle.register.specs.Registers.{book_of, serial_of, KeepsRest}
use Rattle.register.specs.declared.register.Register.{Register}
use Rattle.runs.specs.Hands.{Held, in_hand, Hands}
use Rattle.runs.specs.Out.{held_of, held_in}
use Rattle.runs.specs.Closing.{PassedDecline, Closes}
use Rattle.runs.specs.declared.held.Held as code
use Rattle.runs.proofs.Spending.{spends_last}
use Rattle.runs.proofs.Counts.{none_out}
use Rattle.runs.proofs.Onwards.{goes_on}

-- From one book to another leads a run of declines, and each of them spent one of the Grants that were out; the others still are.
pub record Declines (rules : Rules) (serial : ℕ) (before now : Book) (held : List Held) : Type 0 where
  pub run : List Exchange
  pub runs : Runs request_lines rules before run
  pub ends : book_at_end before run ≡ now
  pub declines : All PassedDecline run
  pub as_many : length run + length held ≡ count_by in_hand before
  pub hands : Hands serial now held

pub none_yet : (rules : Rules) (serial : ℕ) (book : Book) (held : List Held) → Hands serial book held → Declines rules serial book book held
none_yet rules serial book held hands =
    record { run = []; runs = tt; ends = refl; declines = All-nil PassedDecline; as_many = omega (arith, hands.as_many); hands = hands }

-- one more: it is answered by the name of what it is for
one_more : (rules : Rules) (serial : ℕ) (before now later : Book) (held rest : List Held) (one : Held) (answer : Answer)
    → Declines rules serial before now held → held ≡ rest ++ one ∷ [] → Spends serial now one.grant DeclineGrant answer later
    → (answer ≡ named one.identifier) × Declines rules serial before later rest
one_more rules serial before now later held rest one answer so_far is spends =
    let t = one.identifier in
    let passes = (spends_last rules serial now held rest one so_far.hands is).1 in
    let leaves = spends.leaves ∙ passes.does.leaves in
    let exchange : Exchange = record { sent = declines_grant t; back = done; book = later } in
    let served : Serves request_lines rules now exchange = record { answered = sym (ap handed_back passes.answers); leaves = leaves } in
    let long = ap length is in (
      spends.answers ∙ passes.does.answers ∙ passes.answers,
      record {
        run = so_far.run ++ exchange ∷ [];
        runs = runs_more request_lines rules before so_far.run exchange so_far.runs
            (subst (λ book. Serves request_lines rules book exchange) (sym so_far.ends) served);
        ends = end_more before so_far.run exchange;
        declines = All-push PassedDecline so_far.run exchange so_far.declines (record { identifier = t; sent = refl; back = refl });
        as_many = omega (arith, so_far.as_many, length_push so_far.run exchange, long, length_push rest one);
        hands = subst (λ book. Hands serial book rest) (sym leaves) passes.keeps;
      },
    )

-- where none is out any more, the desk is closed
pub all_declined : (rules : Rules) (serial : ℕ) (before now : Book) (held : List Held) → Declines rules serial before now held → held ≡ []
    → Closes rules before now
all_declined rules serial before now held so_far none =
    let long = ap length none in
    record {
      run = so_far.run;
      runs = so_far.runs;
      ends = so_far.ends;
      declines = so_far.declines;
      as_many = omega (arith, so_far.as_many, long);
      none_in_hand = none_out serial now (subst (Hands serial now) none so_far.hands);
      law = λ start earlier led. goes_on start earlier so_far.run rules before now led so_far.runs so_far.ends;
    }

-- ---- the code's lists and registers

-- the last of them declined with
pub last_declined : {P A : Type 0} (rules : Rules) (first now later : Register P A) (items rest : List code.Held) (last : code.Held)
    (answer : Answer) → Declines rules (serial_of first) (book_of first) (book_of now) (held_in items) → KeepsRest first now
    → items ≡ rest ++ last ∷ [] → Spends (serial_of now) (book_of now) (grant_of last.grant) DeclineGrant answer (book_of later)
    → (answer ≡ named (arcs_of last.entry)) × Declines rules (serial_of first) (book_of first) (book_of later) (held_in rest)
last_declined rules first now later items rest last answer so_far kept is spends =
    one_more rules (serial_of first) (book_of first) (book_of now) (book_of later) (held_in items) (held_in rest) (held_of last) answer so_far
    (ap held_in is ∙ map-append held_of rest (last ∷ []))
    (subst (λ serial. Spends serial (book_of now) (grant_of last.grant) DeclineGrant answer (book_of later)) kept.serial spends)

pub refused_or_named : (refusal : Refusal) (t : List ℕ) → refused refusal ≡ named t → ⊥
refused_or_named refusal t same = cc

pub none_out_of : (items : List code.Held) → length items ≡ 0 → held_in items ≡ []
none_out_of [] none = refl
none_out_of (last ∷ items) none = absurd (omega (arith, none))

pub same_rest : {P A : Type 0} (register : Register P A) → KeepsRest register register
same_rest register = record { panels = refl; authorities = refl; serial = refl; refusal = refl; memory = (refl, (refl, refl)) }

pub rest_kept : {P A : Type 0} (first before after : Register P A) → KeepsRest first before → KeepsRest before after → KeepsRest first after
rest_kept first before after one two = record {
  panels = two.panels ∙ one.panels;
  authorities = two.authorities ∙ one.authorities;
  serial = two.serial ∙ one.serial;
  refusal = two.refusal ∙ one.refusal;
  memory = (two.memory.0 ∙ one.memory.0, (two.memory.1.0 ∙ one.memory.1.0, two.memory.1.1 ∙ one.memory.1.1));
}
