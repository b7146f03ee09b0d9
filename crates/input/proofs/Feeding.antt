-- Input in pieces: the lines that they end together, and how far it is read.
use Rattle.std.proofs.Common.{◌≡◌, ℕ, ◌+◌, ◌<◌, Bool, true, false, cond, eqb, List, [], ◌∷◌, ◌++◌, length, get_or, take, Some, None, IfSome, Option, sym, refl, ap, ◌∙◌, subst}
use Rattle.std.specs.Io.KnownBytes.{Consumes, IsAtEnd}
use Rattle.std.proofs.KnownBytes.{Consumes-nil, Consumes-trans}
use Rattle.std.proofs.lemmas.List.{append-nil, take_more}
use Rattle.std.proofs.lemmas.Bool.{cond-true, cond-false, eq-eqb, ne_eqb}
use Rattle.input.specs.Limits.{line_feed}
use Rattle.input.specs.Lines.{Took, LinesOf, underway, ended, last_line, lines_in}

underway-append : (line first second : List ℕ) → underway line (first ++ second) ≡ underway (underway line first) second
unfolding underway
underway-append line [] second = refl
underway-append line (byte ∷ first) second =
    go (eqb byte line_feed) (line ++ byte ∷ []) (underway-append [] first second) (underway-append (line ++ byte ∷ []) first second)
  where
    go : (feed : Bool) (more : List ℕ) → underway [] (first ++ second) ≡ underway (underway [] first) second
        → underway more (first ++ second) ≡ underway (underway more first) second
        → cond feed (underway [] (first ++ second)) (underway more (first ++ second)) ≡ underway (cond feed (underway [] first) (underway more first)) second
    go true more begun same = begun
    go false more begun same = same

ended-append : (line first second : List ℕ) → ended line (first ++ second) ≡ ended line first ++ ended (underway line first) second
unfolding ended underway
ended-append line [] second = refl
ended-append line (byte ∷ first) second =
    go (eqb byte line_feed) (line ++ byte ∷ []) (ended-append [] first second) (ended-append (line ++ byte ∷ []) first second)
  where
    go : (feed : Bool) (more : List ℕ) → ended [] (first ++ second) ≡ ended [] first ++ ended (underway [] first) second
        → ended more (first ++ second) ≡ ended more first ++ ended (underway more first) second
        → cond feed (line ∷ ended [] (first ++ second)) (ended more (first ++ second))
        ≡ cond feed (line ∷ ended [] first) (ended more first) ++ ended (cond feed (underway [] first) (underway more first)) second
    go true more begun same = ap (λ l. line ∷ l) begun
    go false more begun same = same

-- one byte more of some input
module _ (line input : List ℕ) (i : ℕ) (inside : i < length input) where
  underway_more : underway line (take (i + 1) input) ≡ cond (eqb (get_or input i 0) line_feed) [] (underway line (take i input) ++ get_or input i 0 ∷ [])
  unfolding underway
  underway_more = ap (underway line) (take_more input i 0 inside) ∙ underway-append line (take i input) (get_or input i 0 ∷ [])

  ended_more : ended line (take (i + 1) input) ≡ ended line (take i input) ++ cond (eqb (get_or input i 0) line_feed) (underway line (take i input) ∷ []) []
  unfolding ended
  ended_more = ap (ended line) (take_more input i 0 inside) ∙ ended-append line (take i input) (get_or input i 0 ∷ [])

  module _ (feed : get_or input i 0 ≡ line_feed) where
    pub underway_feed : underway line (take (i + 1) input) ≡ []
    underway_feed = underway_more ∙ cond-true _ _ _ (eq-eqb (get_or input i 0) line_feed feed)

    pub ended_feed : ended line (take (i + 1) input) ≡ ended line (take i input) ++ underway line (take i input) ∷ []
    ended_feed = ended_more ∙ ap (λ l. ended line (take i input) ++ l) (cond-true _ _ _ (eq-eqb (get_or input i 0) line_feed feed))

  module _ (other : get_or input i 0 ≡ line_feed → ⊥) where
    pub underway_byte : underway line (take (i + 1) input) ≡ underway line (take i input) ++ get_or input i 0 ∷ []
    underway_byte = underway_more ∙ cond-false _ _ _ (ne_eqb (get_or input i 0) line_feed other)

    pub ended_byte : ended line (take (i + 1) input) ≡ ended line (take i input)
    ended_byte = ended_more ∙ ap (λ l. ended line (take i input) ++ l) (cond-false _ _ _ (ne_eqb (get_or input i 0) line_feed other)) ∙ append-nil (ended line (take i input))

-- a reader that gave these bytes, and has none left, had just these
all_read : (before now : Option (List ℕ)) (read : List ℕ) → Consumes before now read → IsAtEnd now
    → LinesOf before (lines_in read) × IfSome before (λ bytes. now ≡ Some [])
all_read None now read given end = (tt, tt)
all_read (Some left) None read given end = absurd given
all_read (Some left) (Some rest) read given end =
    (ap lines_in (sym (append-nil read) ∙ ap (λ l. read ++ l) (sym end) ∙ sym given), ap Some end)

module _ {Taker : Type 0} (taken : Taker → List (List ℕ) → Taker → Type 0) (known : Option (List ℕ)) (before : Taker) where
  -- how far input is read: a reader gave these bytes, a taker took the lines that they end, and a line the rest
  pub record Fed (left : Option (List ℕ)) (taker : Taker) (line : List ℕ) : Type 0 where
    pub read : List ℕ
    pub given : Consumes known left read
    pub rest : Took line (underway [] read)
    pub lines : taken before (ended [] read) taker

  pub fed_none : (line : List ℕ) → taken before [] before → Took line [] → Fed known before line
  unfolding ended underway
  fed_none line none begun = record { read = []; given = Consumes-nil known; rest = begun; lines = none }

  module _ (further : (first second third : Taker) (lines more : List (List ℕ)) → taken first lines second → taken second more third → taken first (lines ++ more) third) (left : Option (List ℕ)) (taker : Taker) (line : List ℕ) (fed : Fed left taker line) where
    pub fed_more : (left' : Option (List ℕ)) (taker' : Taker) (line' piece : List ℕ) → Consumes left left' piece
        → ((bytes : List ℕ) → Took line bytes → Took line' (underway bytes piece))
        → ((bytes : List ℕ) → Took line bytes → taken taker (ended bytes piece) taker')
        → Fed left' taker' line'
    fed_more left' taker' line' piece given rests takes = record {
      read = fed.read ++ piece;
      given = Consumes-trans known left left' fed.read piece fed.given given;
      rest = subst (Took line') (sym (underway-append [] fed.read piece)) (rests (underway [] fed.read) fed.rest);
      lines = subst (λ l. taken before l taker') (sym (ended-append [] fed.read piece))
          (further before taker taker' (ended [] fed.read) (ended (underway [] fed.read) piece) fed.lines (takes (underway [] fed.read) fed.rest));
    }

    -- with the last line, these are all lines of what was read
    pub fed_last : (taker' : Taker) → ((bytes : List ℕ) → Took line bytes → taken taker (last_line bytes) taker') → taken before (lines_in fed.read) taker'
    fed_last taker' takes =
        further before taker taker' (ended [] fed.read) (last_line (underway [] fed.read)) fed.lines (takes (underway [] fed.read) fed.rest)

  -- where a reader gives nothing more, that is all that it had
  pub fed_all : (left left' : Option (List ℕ)) (taker : Taker) (line : List ℕ) (fed : Fed left taker line) → Consumes left left' [] → IsAtEnd left'
      → LinesOf known (lines_in fed.read) × IfSome known (λ bytes. left' ≡ Some [])
  fed_all left left' taker line fed given end =
      all_read known left' fed.read (subst (Consumes known left') (append-nil fed.read) (Consumes-trans known left left' fed.read [] fed.given given)) end
