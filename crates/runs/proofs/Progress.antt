-- A list of calls under way: what was sent so far, and what came back.
use Rattle.std.proofs.Common.{◌≡◌, List, [], ◌∷◌, ◌++◌, length, map, refl, sym, ap, ◌∙◌, subst, append-nil, append_assoc}
use Rattle.std.proofs.lemmas.List.{map-append, nil_from_length}
use Rattle.arc_rules.specs.Rules.{Meaning}
use Rattle.book.specs.Book.{Book}
use Rattle.book.specs.Questions.{Rules}
use Rattle.book.specs.Founding.{Founding}
use Rattle.book.specs.Runs.{Exchange, Serves}
use Rattle.book.specs.Law.{Start, at_founding}
use Rattle.book.proofs.Theorems.{every_run}
use Rattle.request.specs.RequestLines.{request_lines}
use Rattle.request.proofs.ReadBack.{lines_recover}
use Rattle.register.specs.Registers.{KeepsRest}
use Rattle.runs.specs.Desks.{LedTo, register_of, rules_at}
use Rattle.runs.specs.Replays.{sent_by, back_by, replayed, Replays}
use Rattle.runs.specs.declared.desk.Desk.{Desk}
use Rattle.runs.specs.declared.sent.Sent as code
use Rattle.runs.specs.declared.sent.Said.{Said}
use Rattle.runs.proofs.Onwards.{law_kept}

-- a run with the calls taken so far and their answers led to the rules and the book
pub record SoFar (start : Start) (rules : Rules) (book : Book) (taken : List code.Sent) (said : List Said) : Type 0 where
  pub run : List Exchange
  pub led : LedTo start run rules book
  pub sent : map (λ exchange. exchange.sent) run ≡ map sent_by taken
  pub back : map (λ exchange. exchange.back) run ≡ map back_by said

-- a desk's rules are those that it had, where nothing but its register's rows changed
pub same_rules : {P A : Type 0} (panels : P → Meaning) (authorities : A → Meaning) (before after : Desk P A)
    → KeepsRest (register_of before) (register_of after) → rules_at panels authorities before ≡ rules_at panels authorities after
same_rules panels authorities before after kept =
    λ i. record { panels = panels (sym kept.panels i); authorities = authorities (sym kept.authorities i) }

-- nothing sent yet
pub none_yet : (start : Start) (rules : Rules) (book : Book) (said : List Said) → LedTo start [] rules book → said ≡ []
    → SoFar start rules book [] said
none_yet start rules book said led none = record { run = []; led = led; sent = refl; back = ap (map back_by) (sym none) }

-- one call more, at rules that stayed
pub one_more : (start : Start) (rules rules_after : Rules) (book after : Book) (taken : List code.Sent) (said said_after : List Said)
    (call : code.Sent) (answer : Said) → SoFar start rules book taken said → Serves request_lines rules book (replayed call answer after)
    → rules ≡ rules_after → said_after ≡ said ++ answer ∷ [] → SoFar start rules_after after (taken ++ call ∷ []) said_after
one_more start rules rules_after book after taken said said_after call answer so_far served stay pushed =
    let exchange = replayed call answer after in
    record {
      run = so_far.run ++ exchange ∷ [];
      led = subst (λ rules. LedTo start (so_far.run ++ exchange ∷ []) rules after) stay
          (law_kept rules book exchange served start so_far.run so_far.led).led;
      sent = map-append (λ exchange. exchange.sent) so_far.run (exchange ∷ []) ∙ ap (λ l. l ++ sent_by call ∷ []) so_far.sent
          ∙ sym (map-append sent_by taken (call ∷ []));
      back = map-append (λ exchange. exchange.back) so_far.run (exchange ∷ []) ∙ ap (λ l. l ++ back_by answer ∷ []) so_far.back
          ∙ sym (map-append back_by said (answer ∷ [])) ∙ ap (map back_by) (sym pushed);
    }

-- the calls taken, with those that are left, stay all that there are
pub taken_more : (taken left later calls : List code.Sent) (call : code.Sent) → taken ++ left ≡ calls → left ≡ call ∷ later
    → (taken ++ call ∷ []) ++ later ≡ calls
taken_more taken left later calls call all next = append_assoc taken (call ∷ []) later ∙ ap (λ l. taken ++ l) (sym next) ∙ all

-- where none is left, all are taken
pub all_taken : (taken left calls : List code.Sent) → taken ++ left ≡ calls → length left ≡ 0 → taken ≡ calls
all_taken taken left calls all none = sym (append-nil taken) ∙ ap (λ l. taken ++ l) (sym (nil_from_length left none)) ∙ all

-- all are sent, and the law holds
pub all_sent : (founding : Founding) (rules : Rules) (book : Book) (taken calls : List code.Sent) (said : List Said)
    → SoFar (at_founding founding) rules book taken said → taken ≡ calls → Replays founding calls said rules book
all_sent founding rules book taken calls said so_far all = record {
  run = so_far.run;
  led = so_far.led;
  sent = so_far.sent ∙ ap (map sent_by) all;
  back = so_far.back;
  law = every_run request_lines lines_recover (at_founding founding) so_far.led.begins so_far.run so_far.led.runs;
}
