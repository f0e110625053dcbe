-- What a system makes ready ahead of a call, so that a reply by which little happens takes no memory.
use Rattle.std.specs.Prelude.{◌≡◌, ◌<◌, ◌≤◌, ℕ, Bool, true, false, length, is_none, Option, None, Some}
use Rattle.grs_base.specs.declared.resource.Res.{Res}
use Rattle.grs_base.specs.declared.resource.TaskId.{TaskId}
use Rattle.grs_wire.specs.Replies.{leaves_all}
use Rattle.grs_wire.specs.declared.deck.Choice.{Choice}
use Rattle.grs_wire.specs.declared.deck.Choice.TheVariants as choices
use Rattle.grs_wire.specs.declared.medium.Reply.{Reply}
use Rattle.grs_wire.specs.declared.medium.Reply.TheVariants as replies
use Rattle.grs_node.specs.Log.{NodeView}
use Rattle.grs_node.specs.Node.{NodeState}
use Rattle.grs_node.specs.Star.{StarPart, to_tell}
use Rattle.grs_node.specs.declared.prepared.Prepared.{Prepared}
use Rattle.grs_node.specs.declared.prepared.Prepared.TheVariants.{Quiet, Call, Nothing}
use Rattle.grs_node.specs.declared.ready.ToldNext.{ToldNext}

-- Whether little happens by a reply: it leaves the system as it is, tells that a mail was sent or the interest in an
-- entry given up, or tells a desk that its command came to nothing.
abbrev pub needs_no_memory : Reply → Bool
needs_no_memory replies.Sent = true
needs_no_memory replies.Told = true
needs_no_memory replies.Left = true
needs_no_memory replies.Already = true
needs_no_memory replies.NoSuch = true
needs_no_memory reply = leaves_all reply

-- Whether a system takes no memory for a reply, where it has made room: little happens by it, or a system of a ring is
-- told by it who is removed. In star mode the system loses these, and tells who gains control.
abbrev pub takes_no_memory : NodeState → Reply → Bool
takes_no_memory n (replies.Stale set) = is_none n.star
takes_no_memory n reply = needs_no_memory reply

-- whether a choice is a command of the desk
abbrev pub is_command : Choice → Bool
is_command choices.Switch = true
is_command (choices.Purge s) = true
is_command choice = false

-- whether it tells an owner of another system
abbrev pub is_tell : Choice → Bool
is_tell (choices.Tell e) = true
is_tell choice = false

-- who is told next at a lock entry
abbrev pub told_next : Option StarPart → ℕ → Option (TaskId × Res)
told_next None e = None
told_next (Some p) e = to_tell p e

-- the same for a Tell, with the entry
abbrev pub next_for : Option StarPart → Choice → ToldNext
next_for part (choices.Tell e) = record { entry = e; owner = told_next part e }
next_for part choice = record { entry = 0; owner = None }

-- Who is kept as the one to be told next is the one.
abbrev pub IsReady : Option StarPart → Option ToldNext → Type 0
IsReady part None = Unit {0}
IsReady part (Some next) = next.owner ≡ told_next part next.entry

-- There is room for a reply to the call that a choice makes, by which little happens.
pub record HasRoomFor (v : NodeView) (choice : Choice) : Type 0 where
  pub step : 1 ≤ v.room.steps
  pub lines : is_command choice ≡ true → length v.node.tasks.told < v.room.lines
  pub told : is_command choice ≡ true → 1 ≤ v.room.told
  pub next : is_tell choice ≡ true → v.room.next ≡ Some (next_for v.node.star choice)

-- whether a call was prepared
abbrev pub is_call : Prepared → Bool
is_call (Call call) = true
is_call Quiet = false
is_call Nothing = false
