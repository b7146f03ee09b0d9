-- The kinds of entries, and how a kind and a call together decide the next.
use Rattle.std.specs.Prelude.{Bool, true, false, Some, None, Option}
use Rattle.book.specs.declared.kind.Kind.{Kind}
use Rattle.book.specs.declared.kind.Kind.TheVariants.{Panel, Retired, Offered, InHand, Open, Declined}
use Rattle.book.specs.declared.event.Event.{Event}
use Rattle.book.specs.declared.event.Event.TheVariants.{Accept, Decline, Retire, Collect, AcceptGrant, DeclineGrant}

-- panels, retired or not, are no authorities; all others are, and have a quota
abbrev pub is_authority : Kind → Bool
is_authority Panel = false
is_authority Retired = false
is_authority kind = true

-- the quota of these is taken from the authority above
abbrev pub holds_quota : Kind → Bool
holds_quota Offered = true
holds_quota InHand = true
holds_quota Open = true
holds_quota kind = false

-- only an open authority gives
abbrev pub is_open : Kind → Bool
is_open Open = true
is_open kind = false

-- The kind that a call gives an entry of some kind; none where the call changes no entry of that kind. There is no other change.
abbrev pub next_kind : Kind → Event → Option Kind
next_kind Offered Accept = Some Open
next_kind Offered Decline = Some Declined
next_kind Offered Collect = Some InHand
next_kind InHand AcceptGrant = Some Open
next_kind InHand DeclineGrant = Some Declined
next_kind Panel Retire = Some Retired
next_kind kind event = None
