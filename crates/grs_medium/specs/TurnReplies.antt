-- What a Turn is answered that doesn't get to the message.
use Rattle.std.specs.Prelude.{◌≡◌, ℕ, cond, ◌==◌, List, length, Option, Some, None}
use Rattle.grs_base.specs.declared.resource.SysId.{SysId}
use Rattle.grs_wire.specs.Masks.{has}
use Rattle.grs_wire.specs.declared.medium.Act.TheVariants.{Turn}
use Rattle.grs_wire.specs.declared.medium.Reply.{Reply}
use Rattle.grs_wire.specs.declared.medium.Reply.TheVariants as replies
use Rattle.grs_wire.specs.declared.request.Req.{Req}
use Rattle.rsa_message.specs.Message.{stands_at}
use Rattle.grs_wire.specs.Unseen.{unseen}
use Rattle.grs_medium.specs.Apply.{turn_row, apply}
use Rattle.grs_medium.specs.Medium.{MediumState}
use Rattle.grs_medium.specs.declared.medium.TurnRefusal.{TurnRefusal}
use Rattle.grs_medium.specs.declared.medium.TurnRefusal.TheVariants.{NotYours, Stale, Removed}

-- what a Turn is told that is refused, among all replies
abbrev pub refusal_reply : TurnRefusal → Reply
refusal_reply (NotYours at) = replies.NotYours at
refusal_reply (Stale set) = replies.Stale set
refusal_reply Removed = replies.Removed

-- The reply to a Turn of c that doesn't get to the message, whatever it would put in: c was removed, or doesn't know
-- all removed systems, or the message isn't at c.
unfoldable pub refusal : MediumState → SysId → ℕ → Option Reply
refusal m c known =
    cond (has m.removed c.0)
    (Some replies.Removed)
    (cond (known == m.removed)
    (cond (stands_at m.message.holder c) None (Some (replies.NotYours m.message.holder)))
    (Some (replies.Stale m.removed)))

-- A Turn that is refused so is answered that, whatever it would put in, and leaves the medium as it was.
abbrev pub TurnIsRefused : Type 0
TurnIsRefused =
    (m : MediumState) (c : SysId) (known : ℕ) (out : List Req) (r : Reply) → refusal m c known ≡ Some r
    → apply m c (record { known = known; act = Turn out }) ≡ (r, m)

-- Any other Turn gets to the message: its caller is given the entries that it has yet to process, and of its requests
-- all are put in, or none where the message is closed.
abbrev pub TurnIsServed : Type 0
TurnIsServed =
    (m : MediumState) (c : SysId) (known : ℕ) (out : List Req) → refusal m c known ≡ None
    → apply m c (record { known = known; act = Turn out })
    ≡ (
      replies.Turned (unseen c m.message.entries) (cond m.message.closed 0 (length out)) m.message.closed,
      (turn_row m c out).1,
    )
