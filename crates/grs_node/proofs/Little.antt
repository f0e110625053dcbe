-- Replies by which little happens, where something was to be taken, settled or turned; and what is told by a step.
use Rattle.std.proofs.Common.{◌≡◌, ℕ, Bool, true, false, List, [], ◌∷◌, ◌++◌, length, drop, ap, ◌∙◌, refl}
use Rattle.std.proofs.Math.Seq.{drop-append_seam}
use Rattle.grs_node.proofs.Finish.{replies_leave}
use Rattle.grs_node.specs.Node.{NodeState, only, finish, finish_call, turned, take_step}
use Rattle.grs_node.specs.Room.{needs_no_memory}
use Rattle.grs_node.specs.Star.{StarPart, fixing_none, settle_step, tell_step, part_step, leave_step}
use Rattle.grs_wire.specs.declared.deck.Choice.TheVariants as choices
use Rattle.grs_wire.specs.declared.deck.Deck.{Deck}
use Rattle.grs_wire.specs.declared.medium.Reply.{Reply}
use Rattle.grs_wire.specs.declared.medium.Reply.TheVariants as replies
use Rattle.grs_wire.specs.declared.medium.RingEntry.{RingEntry}
use Rattle.grs_wire.specs.declared.told.ToldLine.{ToldLine}
use Rattle.grs_wire.specs.Replies.{leaves_all}
use Rattle.task_state.specs.View.{TasksView, with_phase, with_state}
use Rattle.task_state.specs.declared.state.Phase.{Phase}
use Rattle.grs_base.specs.declared.resource.TaskId.{TaskId}

-- what was to be taken or settled stays
pub take-little : (deck : Deck) (known : ℕ) (v : TasksView) (p : StarPart) (reply : Reply)
    → needs_no_memory reply ≡ true
    → take_step deck known v p reply ≡ fixing_none v p
take-little deck known v p (replies.Taken mail) h = absurd cc
take-little deck known v p (replies.Turned es taken closed) h = refl
take-little deck known v p (replies.Stale set) h = refl
take-little deck known v p (replies.NotYours holder) h = refl
take-little deck known v p (replies.Behind first) h = refl
take-little deck known v p (replies.Kept mask) h = refl
take-little deck known v p replies.Switched h = refl
take-little deck known v p replies.Already h = refl
take-little deck known v p replies.Sole h = refl
take-little deck known v p replies.Sent h = refl
take-little deck known v p replies.Empty h = refl
take-little deck known v p replies.Settled h = refl
take-little deck known v p replies.Told h = refl
take-little deck known v p replies.Left h = refl
take-little deck known v p replies.Purged h = refl
take-little deck known v p replies.NoSuch h = refl
take-little deck known v p replies.Yours h = refl
take-little deck known v p replies.Old h = refl
take-little deck known v p replies.Resting h = refl
take-little deck known v p replies.Over h = refl
take-little deck known v p replies.Removed h = refl

pub settle-little : (v : TasksView) (p : StarPart) (reply : Reply) → needs_no_memory reply ≡ true
    → settle_step v p reply ≡ fixing_none v p
settle-little v p replies.Settled h = absurd cc
settle-little v p (replies.Taken mail) h = refl
settle-little v p (replies.Turned es taken closed) h = refl
settle-little v p (replies.Stale set) h = refl
settle-little v p (replies.NotYours holder) h = refl
settle-little v p (replies.Behind first) h = refl
settle-little v p (replies.Kept mask) h = refl
settle-little v p replies.Switched h = refl
settle-little v p replies.Already h = refl
settle-little v p replies.Sole h = refl
settle-little v p replies.Sent h = refl
settle-little v p replies.Empty h = refl
settle-little v p replies.Told h = refl
settle-little v p replies.Left h = refl
settle-little v p replies.Purged h = refl
settle-little v p replies.NoSuch h = refl
settle-little v p replies.Yours h = refl
settle-little v p replies.Old h = refl
settle-little v p replies.Resting h = refl
settle-little v p replies.Over h = refl
settle-little v p replies.Removed h = refl

-- a Turn that gives nothing leaves the system
pub turned-little : (deck : Deck) (n : NodeState) (es : List RingEntry) (taken : ℕ) (closed : Bool)
    → needs_no_memory (replies.Turned es taken closed) ≡ true → turned deck n es taken closed ≡ only n
unfolding finish finish_call
turned-little deck n es taken closed h =
    replies_leave deck n choices.Turn (replies.Turned es taken closed) (rest es h)
  where
    rest : (xs : List RingEntry) → needs_no_memory (replies.Turned xs taken closed) ≡ true
        → leaves_all (replies.Turned xs taken closed) ≡ true
    rest [] k = k
    rest (x ∷ xs) k = absurd cc

pub ruleset little = (take-little, settle-little, turned-little)

-- and nothing comes of a Tell, of a part that is sent, or of a Leave but by these replies
others : (v : TasksView) (p : StarPart) (e : ℕ) (reply : Reply) → needs_no_memory reply ≡ false
    → (tell_step v p e reply ≡ fixing_none v p)
    × (part_step v p e reply ≡ fixing_none v p)
    × (leave_step v p e reply ≡ fixing_none v p)
others v p e (replies.Turned entries taken closed) h = (refl, refl, refl)
others v p e (replies.NotYours holder) h = (refl, refl, refl)
others v p e (replies.Behind first) h = (refl, refl, refl)
others v p e replies.Switched h = (refl, refl, refl)
others v p e replies.Already h = (refl, refl, refl)
others v p e replies.Sole h = (refl, refl, refl)
others v p e replies.Sent h = (refl, refl, refl)
others v p e (replies.Taken mail) h = (refl, refl, refl)
others v p e replies.Empty h = (refl, refl, refl)
others v p e replies.Settled h = (refl, refl, refl)
others v p e replies.Told h = absurd cc
others v p e replies.Left h = absurd cc
others v p e (replies.Kept mask) h = (refl, refl, refl)
others v p e replies.Yours h = (refl, refl, refl)
others v p e replies.Old h = (refl, refl, refl)
others v p e replies.Purged h = (refl, refl, refl)
others v p e replies.NoSuch h = (refl, refl, refl)
others v p e replies.Resting h = (refl, refl, refl)
others v p e replies.Over h = (refl, refl, refl)
others v p e replies.Removed h = (refl, refl, refl)
others v p e (replies.Stale set) h = (refl, refl, refl)

pub tell-more : (v : TasksView) (p : StarPart) (e : ℕ) (reply : Reply) → needs_no_memory reply ≡ false
    → tell_step v p e reply ≡ fixing_none v p
tell-more v p e reply h = (others v p e reply h).0

pub part-more : (v : TasksView) (p : StarPart) (e : ℕ) (reply : Reply) → needs_no_memory reply ≡ false
    → part_step v p e reply ≡ fixing_none v p
part-more v p e reply h = (others v p e reply h).1

pub leave-more : (v : TasksView) (p : StarPart) (e : ℕ) (reply : Reply) → needs_no_memory reply ≡ false
    → leave_step v p e reply ≡ fixing_none v p
leave-more v p e reply h = (others v p e reply h).2

pub ruleset more = (tell-more, part-more, leave-more)

-- what is told behind the lines before
pub told-behind : (before more all : List ToldLine) → all ≡ before ++ more → drop (length before) all ≡ more
told-behind before more all is = ap (drop (length before)) is ∙ drop-append_seam before more

pub ruleset told_steps = (told-behind)

-- a task that goes on tells nothing by it
pub told-phase : (v : TasksView) (t : TaskId) (p : Phase) → (with_phase v t p).told ≡ v.told
unfolding with_phase with_state
told-phase v t p = refl

pub ruleset phases = (told-phase)
