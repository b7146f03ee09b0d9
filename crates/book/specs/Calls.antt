-- The calls, and where each is placed.
use Rattle.std.specs.Prelude.{ℕ, List, Some, Option}
use Rattle.oid.specs.Tree.{parent_of}

-- H is the caller's holder number, O an authority, T an entry, A an arc, Q a quota, and G the holder whom an offer names.
pub data Call : Type 0 where
  -- a panel below O: H, O
  grant : ℕ → List ℕ → Call
  -- a panel below O at A: H, O, A
  claim : ℕ → List ℕ → ℕ → Call
  -- an authority below O, offered to G with Q: H, O, Q, G
  offer : ℕ → List ℕ → ℕ → ℕ → Call
  -- an offered T becomes open, or declined: G, T
  accept : ℕ → List ℕ → Call
  decline : ℕ → List ℕ → Call
  -- a panel becomes retired: H, T
  retire : ℕ → List ℕ → Call
  -- O's children are listed, those with arcs from A upwards: H, O, A
  roll : ℕ → List ℕ → ℕ → Call
  -- an offered T becomes in hand, and a Grant is given: G, T
  collect : ℕ → List ℕ → Call
  -- the register's own Grant for T is spent, and T becomes open, or declined: T
  accept_grant : List ℕ → Call
  decline_grant : List ℕ → Call

-- The place of a call: O; or the parent of T, where T has one.
abbrev pub place_of : Call → Option (List ℕ)
place_of (grant holder o) = Some o
place_of (claim holder o arc) = Some o
place_of (offer holder o quota taker) = Some o
place_of (roll holder o from) = Some o
place_of (accept taker t) = parent_of t
place_of (decline taker t) = parent_of t
place_of (retire holder t) = parent_of t
place_of (collect taker t) = parent_of t
place_of (accept_grant t) = parent_of t
place_of (decline_grant t) = parent_of t
