-- What is true of every change of a kind.
use Rattle.std.proofs.Common.{◌≡◌, ℕ, ◌≤◌, Bool, true, false, cond, not, ◌&&◌, Some, refl, arith}
use Rattle.std.proofs.Math.Bool.{beq}
use Rattle.std.proofs.lemmas.Bool.{and_parts, not-true}
use Rattle.std.specs.Cmp.{booleans_Decides}
use Rattle.book.specs.Kinds.{is_open, is_authority, holds_quota, next_kind}
use Rattle.book.specs.Beneath.{may_become}
use Rattle.book.specs.declared.kind.Kind.{Kind}
use Rattle.book.specs.declared.kind.Kind.TheVariants.{Panel, Retired, Offered, InHand, Open, Declined}
use Rattle.book.specs.declared.event.Event.{Event}
use Rattle.book.specs.declared.event.Event.TheVariants.{Accept, Decline, Retire, Collect, AcceptGrant, DeclineGrant}

abbrev pub is_declined : Kind → Bool
is_declined Declined = true
is_declined kind = false

-- the events that decline
abbrev pub declines_by : Event → Bool
declines_by Decline = true
declines_by DeclineGrant = true
declines_by event = false

-- an authority stays one; what is open or declined is never changed; an entry is declined where the event declines, and only there; no quota
-- comes to be taken from the authority above; and the change is among those that may be
pub record Change (old : Kind) (event : Event) (kind : Kind) : Type 0 where
  pub authority : is_authority kind ≡ is_authority old
  pub shut : is_open old ≡ false
  pub undeclined : is_declined old ≡ false
  pub declined : is_declined kind ≡ declines_by event
  pub holds : (quota : ℕ) → cond (holds_quota kind) quota 0 ≤ cond (holds_quota old) quota 0
  pub becomes : may_become old kind ≡ true

-- all of this as one test
abbrev may_change : Kind → Kind → Bool
may_change old kind = beq (is_authority kind) (is_authority old) && (not (is_open old) && not (is_declined old))

abbrev turns_into : Kind → Event → Kind → Bool
turns_into old event kind = beq (is_declined kind) (declines_by event) && (not (holds_quota kind && not (holds_quota old)) && may_become old kind)

abbrev is_change : Kind → Event → Kind → Bool
is_change old event kind = may_change old kind && turns_into old event kind

-- which the changes that there are pass
changes : (old : Kind) (event : Event) (kind : Kind) → next_kind old event ≡ Some kind → is_change old event kind ≡ true
changes Offered Accept Open e = refl
changes Offered Decline Declined e = refl
changes Offered Collect InHand e = refl
changes InHand AcceptGrant Open e = refl
changes InHand DeclineGrant Declined e = refl
changes Panel Retire Retired e = refl
changes old event kind e = cc

no_more : (new old : Bool) (quota : ℕ) → (new && not old) ≡ false → cond new quota 0 ≤ cond old quota 0
no_more true true quota h = omega arith
no_more true false quota h = cc
no_more false old quota h = omega arith

pub change : (old : Kind) (event : Event) (kind : Kind) → next_kind old event ≡ Some kind → Change old event kind
change old event kind e =
    let both = and_parts (may_change old kind) (turns_into old event kind) (changes old event kind e) in
    let here = and_parts (beq (is_authority kind) (is_authority old)) _ both.0 in
    let before = and_parts (not (is_open old)) _ here.1 in
    let after = and_parts (beq (is_declined kind) (declines_by event)) _ both.1 in
    let rest = and_parts (not (holds_quota kind && not (holds_quota old))) _ after.1 in
    record {
      authority = (booleans_Decides _ _).0 here.0;
      shut = not-true (is_open old) before.0;
      undeclined = not-true (is_declined old) before.1;
      declined = (booleans_Decides _ _).0 after.0;
      holds = λ quota. no_more (holds_quota kind) (holds_quota old) quota (not-true _ rest.0);
      becomes = rest.1;
    }
