-- The bytes of a roll, as one writes it: line by line.
use Rattle.std.proofs.Common.{◌≡◌, ℕ, ◌+◌, ◌≤◌, Bool, true, false, cond, List, [], ◌∷◌, ◌++◌, length, map, take, drop, Some, None, Option, Ok, Err, IfSome, refl, sym, ap, ◌∙◌, append_assoc, arith}
use Rattle.std.specs.Option.{ForSome}
use Rattle.std.proofs.lemmas.Bool.{both_ways, cond-true, cond-false, leb-true, le-leb}
use Rattle.std.proofs.lemmas.List.{length-append, length-drop, length-take-le, take_at}
use Rattle.std.proofs.lemmas.Option.{none-some, same_Some}
use Rattle.oid.specs.Arcs.{is_arc}
use Rattle.oid.specs.Pages.{placed, at_front}
use Rattle.oid.specs.Tree.{is_identifier}
use Rattle.book.specs.Book.{Entry, arc_of_child}
use Rattle.request.specs.Answers.{ok_line, child_line, last_line, child_of, roll_lines, roll_bytes}
use Rattle.request.specs.Limits.{least_rest, has_room}
use Rattle.request.specs.Written.{PutsLine}
use Rattle.request.specs.declared.child.Child.{Child}
use Rattle.request.specs.declared.page.PageRefusal.TheVariants.{TooShort}
use Rattle.request.proofs.Fitting.{lines_fit}
use Rattle.register.specs.Submitted.{OnPage}

-- what is written of a page, and the lines of the children that are left
abbrev pub rolled : List Entry → ℕ → List ℕ → List ℕ
rolled children written page = take written page ++ roll_lines (length page) written (map child_of children)

pub none_left : (children : List Entry) (written : ℕ) (page : List ℕ) → children ≡ [] → take written page ++ last_line None ≡ rolled children written page
unfolding roll_lines
none_left children written page none = ap (λ left. rolled left written page) (sym none)

-- what is written of a page, once bytes were put behind it
take_placed : (written : ℕ) (bytes page : List ℕ) → written + length bytes ≤ length page
    → take (written + length bytes) (placed written bytes page) ≡ take written page ++ bytes
unfolding placed
take_placed written bytes page room =
    ap (take (written + length bytes)) (sym (append_assoc (take written page) bytes (drop (written + length bytes) page)))
    ∙ take_at (take written page ++ bytes) (drop (written + length bytes) page) (written + length bytes)
    (omega (arith, length-append (take written page) bytes, length-take-le written page (omega (arith, room))))

module _ (bytes : List ℕ) (rest written : ℕ) (page : List ℕ) (done : Bool) (after : ℕ) (page_after : List ℕ) (puts : PutsLine bytes rest written page done after page_after) where
  pub line_room : done ≡ true → written + length bytes + rest ≤ length page
  line_room is = leb-true _ _ (sym puts.answers ∙ is)

  pub line_counted : done ≡ true → after ≡ written + length bytes
  line_counted is = puts.counted ∙ cond-true done _ _ is

  pub line_there : done ≡ true → take after page_after ≡ take written page ++ bytes
  line_there is = (λ k. take (line_counted is k) (puts.there is k)) ∙ take_placed written bytes page (omega (arith, line_room is))

  pub line_rest : done ≡ true → after + rest ≤ length page_after
  line_rest is = omega (arith, line_counted is, line_room is, puts.long)

-- a child's line, put behind what is written, or not
module _ (left others : List Entry) (entry : Entry) (child : Child) (first : left ≡ entry ∷ others) (is_of : child ≡ child_of entry)
    (written : ℕ) (page : List ℕ) (done : Bool) (after : ℕ) (page_after : List ℕ) (puts : PutsLine (child_line child) least_rest written page done after page_after) where
  abbrev line : List ℕ
  line = child_line child

  abbrev lines_behind : List ℕ
  lines_behind = roll_lines (length page) (written + length line) (map child_of others)

  lines_left : roll_lines (length page) written (map child_of left) ≡ cond done (line ++ lines_behind) (last_line (Some child.arc))
  unfolding roll_lines
  lines_left =
      ap (λ entries. roll_lines (length page) written (map child_of entries)) first
      ∙ ap (λ one. roll_lines (length page) written (one ∷ map child_of others)) (sym is_of)
      ∙ ap (λ room. cond room (line ++ lines_behind) (last_line (Some child.arc))) (sym puts.answers)

  pub child_put : done ≡ true → rolled others after page_after ≡ rolled left written page
  child_put is =
      let there = line_there line least_rest written page done after page_after puts is in
      let counted = line_counted line least_rest written page done after page_after puts is in
      (λ k. there k ++ roll_lines (puts.long k) (counted k) (map child_of others))
      ∙ append_assoc (take written page) line lines_behind
      ∙ ap (λ lines. take written page ++ lines) (sym (lines_left ∙ cond-true done _ _ is))

  pub child_not_put : (arc : ℕ) → arc ≡ arc_of_child entry → done ≡ false → take after page_after ++ last_line (Some arc) ≡ rolled left written page
  child_not_put arc same is =
      let before = ap (λ n. take n page_after) (puts.counted ∙ cond-false done _ _ is) ∙ puts.before_it in
      let ending = ap (λ n. last_line (Some n)) (same ∙ ap (λ one. one.arc) (sym is_of)) in
      (λ k. before k ++ ending k) ∙ ap (λ lines. take written page ++ lines) (sym (lines_left ∙ cond-false done _ _ is))

-- a first line on a page that has room for answers
module _ (arcs : List ℕ) (page : List ℕ) (identifier : is_identifier arcs ≡ true) (room : has_room (length page) ≡ true) (written : ℕ) (page_first : List ℕ)
    (counted : Ok written ≡ cond (has_room (length page)) (Ok (length (ok_line arcs))) (Err TooShort))
    (there : page_first ≡ cond (has_room (length page)) (at_front (ok_line arcs) page) page) where
  abbrev first : List ℕ
  first = ok_line arcs

  fits : length first + least_rest ≤ length page
  fits = omega (arith, lines_fit.yes_fits arcs identifier, leb-true _ _ room)

  is_first : page_first ≡ at_front first page
  is_first = there ∙ cond-true _ _ _ room

  first_counted : written ≡ length first
  first_counted = let told = counted ∙ cond-true _ _ _ room in cc

  first_long : length page_first ≡ length page
  first_long = ap length is_first ∙ omega (arith, fits, length-append first (drop (length first) page), length-drop (length first) page)

  pub first_rest : written + least_rest ≤ length page_first
  first_rest = omega (arith, fits, first_counted, first_long)

  -- and behind it the lines of a roll up to the last, and the last
  module _ (children : List Child) (next : Option ℕ) (behind : ℕ) (page_behind : List ℕ) (done : Bool) (after : ℕ) (page_after : List ℕ)
      (lines : take behind page_behind ++ last_line next ≡ take written page_first ++ roll_lines (length page_first) written children)
      (rest : behind + least_rest ≤ length page_behind) (long : length page_behind ≡ length page_first) (arc : IfSome next (λ arc. is_arc arc ≡ true))
      (puts : PutsLine (last_line next) 0 behind page_behind done after page_after) where
    abbrev bytes : List ℕ
    bytes = roll_bytes (length page) arcs children

    is_done : done ≡ true
    is_done = puts.answers ∙ le-leb _ _ (omega (arith, rest, lines_fit.last_fits next (for_some next arc)))
      where
        for_some : (next : Option ℕ) → IfSome next (λ arc. is_arc arc ≡ true) → ForSome next (λ arc. is_arc arc ≡ true)
        for_some None h arc is = absurd (none-some arc is)
        for_some (Some one) h arc is = ap is_arc (sym (same_Some _ _ is)) ∙ h

    all_there : take after page_after ≡ bytes
    all_there =
        line_there (last_line next) 0 behind page_behind done after page_after puts is_done ∙ lines
        ∙ (λ k. take (first_counted k) (is_first k) ++ roll_lines (first_long k) (first_counted k) children)
        ∙ ap (λ front. front ++ roll_lines (length page) (length first) children) (take_at first (drop (length first) page) (length first) refl)

    pub all_counted : after ≡ length bytes
    all_counted =
        sym (length-take-le after page_after (omega (arith, line_rest (last_line next) 0 behind page_behind done after page_after puts is_done)))
        ∙ ap length all_there

    pub on_page : OnPage bytes false page page_after
    on_page = record {
      there = ap (λ n. take n page_after) (sym all_counted) ∙ all_there;
      long = puts.long ∙ long ∙ first_long;
      beyond = λ is. absurd (both_ways false refl is);
    }
