-- Which tasks are to send their request again when their system takes a notice.
use Rattle.std.specs.Prelude.{◌≡◌, ◌<◌, ◌==◌, ◌&&◌, ℕ, Bool, true, false, cond, List, length, Option, Some, slice_get}
use Rattle.std.specs.List.{list_any}
use Rattle.grs_base.specs.declared.resource.SysId.{SysId}
use Rattle.grs_base.specs.declared.resource.TaskId.{TaskId}
use Rattle.grs_node.specs.Node.{NodeState, is_item_of}
use Rattle.grs_node.specs.Removal.{is_news}
use Rattle.grs_node.specs.Star.{StarPart, asks_in}
use Rattle.grs_wire.specs.declared.deck.Deck.{Deck}
use Rattle.grs_wire.specs.declared.deck.Event.{Event}
use Rattle.grs_wire.specs.declared.gather.Moved.{Moved}
use Rattle.grs_wire.specs.declared.medium.Mail.TheVariants.{Answered, Notice}
use Rattle.grs_wire.specs.declared.medium.Reply.{Reply}
use Rattle.grs_wire.specs.declared.medium.Reply.TheVariants.{Taken}
use Rattle.task_state.specs.View.{is_task, state_of}
use Rattle.task_state.specs.declared.state.Asked.{Asked}
use Rattle.task_state.specs.declared.state.Phase.TheVariants.{Sent, ToSend}
use Rattle.grs_world.specs.Removing.{reply_of}
use Rattle.grs_world.specs.World.{happens, run}

-- whether an item of a notice is of the deck, and names the entry of what a task asks for, which the system neither
-- manages nor gathers
abbrev pub asks_again : Deck → StarPart → Option Asked → Moved → Bool
asks_again deck p asked m = is_item_of deck m && (is_news p m.entry && asks_in p m.entry asked)

-- By an event that takes a notice, at a system in star mode, a task that has sent its request, which isn't answered
-- yet, is to send it again exactly where such an item names its entry.
abbrev pub NoticesSendAgain : Deck → List Event → Event → Type 0
NoticesSendAgain deck es e =
    (n k : NodeState) (p : StarPart) (target : SysId) (moved : List Moved) (t : TaskId)
    → slice_get (run deck es).nodes e.system.0 ≡ Some n → n.star ≡ Some p
    → slice_get (happens deck (run deck es) e).nodes e.system.0 ≡ Some k
    → reply_of deck (run deck es) e ≡ Some (Taken (Notice target moved))
    → target.0 < length deck.systems → is_task n.tasks t ≡ true → (state_of n.tasks t).phase ≡ Sent
    → (state_of k.tasks t).phase
    ≡ cond (list_any (asks_again deck p (state_of n.tasks t).outstanding) moved) ToSend Sent

-- whether an event was answered with a notice, or with an answer to a task at this place of its system
abbrev pub is_touched : TaskId → Option Reply → Bool
is_touched t (Some (Taken (Notice target moved))) = true
is_touched t (Some (Taken (Answered u answer rank))) = u.task == t.task
is_touched t reply = false

-- By no other event does such a task change what it asks, or that it has sent it.
abbrev pub SentStays : Deck → List Event → Event → Type 0
SentStays deck es e =
    (n k : NodeState) (p : StarPart) (t : TaskId)
    → slice_get (run deck es).nodes e.system.0 ≡ Some n → n.star ≡ Some p
    → slice_get (happens deck (run deck es) e).nodes e.system.0 ≡ Some k
    → is_touched t (reply_of deck (run deck es) e) ≡ false → is_task n.tasks t ≡ true
    → (state_of n.tasks t).phase ≡ Sent
    → ((state_of k.tasks t).phase ≡ Sent) × ((state_of k.tasks t).outstanding ≡ (state_of n.tasks t).outstanding)
