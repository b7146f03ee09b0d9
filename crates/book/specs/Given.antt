-- What a run gave, and what it declined, read off what was sent and what came back.
use Rattle.std.specs.Prelude.{ℕ, List, filter_map, Some, None, Option}
use Rattle.std.specs.Option.{option_and, option_and_then}
use Rattle.book.specs.Calls.{Call, grant, claim, offer, decline, decline_grant}
use Rattle.book.specs.Runs.{Sent, line, declines_grant, Back, written, done, Lines, Exchange}

-- A gift: who gave, the identifier that was given, and of an offer its quota.
pub record Gift : Type 0 where
  pub giver : List ℕ
  pub identifier : List ℕ
  pub offered : Option ℕ

-- a call whose answer is `ok` and an identifier gives that identifier, if it is a grant, a claim or an offer
abbrev pub gift_by : Call → List ℕ → Option Gift
gift_by (grant holder o) identifier = Some (record { giver = o; identifier = identifier; offered = None })
gift_by (claim holder o arc) identifier = Some (record { giver = o; identifier = identifier; offered = None })
gift_by (offer holder o quota taker) identifier = Some (record { giver = o; identifier = identifier; offered = Some quota })
gift_by call identifier = None

-- the identifier that a decline names
abbrev pub declined_by : Call → Option (List ℕ)
declined_by (decline taker t) = Some t
declined_by (decline_grant t) = Some t
declined_by call = None

-- what an exchange gave: by a line, with the identifier that is recovered from what was written
abbrev pub gift_in : Lines → Sent → Back → Option Gift
gift_in lines (line bytes page) (written said) =
    option_and_then (λ call. option_and_then (gift_by call) (lines.recover said)) (lines.call_of bytes)
gift_in lines sent back = None

-- what an exchange declined: by a line that was answered `ok`, or with a Grant
abbrev pub decline_in : Lines → Sent → Back → Option (List ℕ)
decline_in lines (line bytes page) (written said) = option_and (lines.recover said) (option_and_then declined_by (lines.call_of bytes))
decline_in lines (declines_grant t) done = Some t
decline_in lines sent back = None

-- all that a run gave, and all that it declined, in order
abbrev pub gifts : Lines → List Exchange → List Gift
gifts lines run = filter_map (λ exchange. gift_in lines exchange.sent exchange.back) run

abbrev pub declines : Lines → List Exchange → List (List ℕ)
declines lines run = filter_map (λ exchange. decline_in lines exchange.sent exchange.back) run
