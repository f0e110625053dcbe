-- A Turn by whether it gets to the message.
use Rattle.std.proofs.Common.{◌≡◌, ℕ, Bool, true, false, cond, List, length, Option, Some, None, refl, ap}
use Rattle.std.specs.Prelude.{◌==◌, ◌&&◌, ◌||◌}
use Rattle.grs_base.specs.declared.resource.SysId.{SysId}
use Rattle.grs_wire.specs.Masks.{has, without}
use Rattle.grs_wire.specs.declared.medium.Reply.{Reply}
use Rattle.grs_wire.specs.declared.medium.Reply.TheVariants.{Turned, NotYours, Stale, Removed}
use Rattle.grs_wire.specs.declared.request.Req.{Req}
use Rattle.rsa_message.specs.Message.{stands_at, moves, turn_reply, turned, turned_open, turned_closed, wakes}
use Rattle.rsa_message.specs.Message.{rest_after_turn}
use Rattle.grs_wire.specs.Unseen.{unseen}
use Rattle.grs_medium.specs.Apply.{turn_row, row, apply}
use Rattle.grs_medium.specs.Medium.{MediumState, live}
use Rattle.grs_medium.specs.TurnReplies.{refusal, TurnIsRefused, TurnIsServed}

-- what the medium answers by whether the message is at the caller
abbrev row_where : MediumState → SysId → List Req → Bool → Reply × MediumState
row_where m c out e = (
  cond e (Turned (unseen c m.message.entries) (cond m.message.closed 0 (length out)) m.message.closed)
      (NotYours m.message.holder),
  record m {
    message =
        cond e (cond m.message.closed (turned_closed m.message c) (turned_open m.message c out (live m) m.rest))
        m.message;
    rest = cond (e && (m.message.closed || moves m.message c (length out))) (without m.rest c.0) m.rest;
  },
)

-- the refusal by the three tests
abbrev refused_by : MediumState → Bool → Bool → Bool → Option Reply
refused_by m b d e =
    cond b (Some Removed) (cond d (cond e None (Some (NotYours m.message.holder))) (Some (Stale m.removed)))

abbrev reply_in : Option Reply → Reply
reply_in None = Removed
reply_in (Some r) = r

pub turn_is_refused : TurnIsRefused
unfolding refusal apply row turn_row turn_reply turned rest_after_turn wakes
turn_is_refused m c known out r h = go (has m.removed c.0) (known == m.removed) (stands_at m.message.holder c) h
  where
    go : (b d e : Bool) → refused_by m b d e ≡ Some r
        → cond {A = Reply × MediumState} b (Removed, m) (cond d (row_where m c out e) (Stale m.removed, m)) ≡ (r, m)
    go true d e k = ap (λ (o : Option Reply). (reply_in o, m)) k
    go false true true k = absurd (cc)
    go false true false k = ap (λ (o : Option Reply). (reply_in o, m)) k
    go false false e k = ap (λ (o : Option Reply). (reply_in o, m)) k

pub turn_is_served : TurnIsServed
unfolding refusal apply row turn_row turn_reply turned rest_after_turn wakes
turn_is_served m c known out h = go (has m.removed c.0) (known == m.removed) (stands_at m.message.holder c) h
  where
    go : (b d e : Bool) → refused_by m b d e ≡ None
        → cond {A = Reply × MediumState} b (Removed, m) (cond d (row_where m c out e) (Stale m.removed, m))
        ≡ (
          Turned (unseen c m.message.entries) (cond m.message.closed 0 (length out)) m.message.closed,
          (row_where m c out e).1,
        )
    go true d e k = absurd (cc)
    go false true true k = refl
    go false true false k = absurd (cc)
    go false false e k = absurd (cc)

-- the message is at the caller of a Turn that isn't refused
pub turn_is_here : (m : MediumState) (c : SysId) (known : ℕ) → refusal m c known ≡ None
    → stands_at m.message.holder c ≡ true
unfolding refusal
turn_is_here m c known h = go (has m.removed c.0) (known == m.removed) (stands_at m.message.holder c) h
  where
    go : (b d e : Bool) → refused_by m b d e ≡ None → e ≡ true
    go true d e k = absurd (cc)
    go false true true k = refl
    go false true false k = absurd (cc)
    go false false e k = absurd (cc)
