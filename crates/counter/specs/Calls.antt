-- What is asked at the counter.
use Rattle.std.specs.Prelude.{ℕ, List}

-- a taker is a holder's number, and an entry the arcs of its identifier
pub data Call : Type 0 where
  -- the grant of an offered entry handed to its taker
  collect : ℕ → List ℕ → Call
  -- the grant in hand spent: its entry opened, or declined
  accept : List ℕ → Call
  decline : List ℕ → Call
  -- what the grant in hand says
  terms : List ℕ → Call
  -- how much of the entry's quota is left
  left : List ℕ → Call
  -- what is told of the register
  tells : Call
