-- What the removal of a system comes to in a run: when each answer of it comes, what stands in the history, which
-- owners and waiters stay, and where the message goes.
use Rattle.std.specs.Prelude.{◌≡◌, ◌≢◌, ◌↔◌, ℕ, true, false, cond, List, [], ◌∷◌, ◌++◌, filter}
use Rattle.std.specs.Prelude.{Contains, Option, Some}
use Rattle.std.specs.Prelude.{None, slice_get}
use Rattle.std.specs.List.{list_any}
use Rattle.grs_base.specs.Lists.{owns}
use Rattle.grs_base.specs.State.{is_systems, is_of_other}
use Rattle.grs_base.specs.declared.resource.Res.{Res}
use Rattle.grs_base.specs.declared.resource.SysId.{SysId}
use Rattle.grs_base.specs.declared.resource.TaskId.{TaskId}
use Rattle.grs_legal.specs.Legal.{entries_of}
use Rattle.grs_medium.specs.Apply.{reply_to}
use Rattle.grs_medium.specs.Medium.{MediumState}
use Rattle.grs_node.specs.Node.{NodeState, prepare}
use Rattle.grs_node.specs.declared.prepared.Prepared.{Prepared}
use Rattle.grs_node.specs.declared.prepared.Prepared.TheVariants.{Quiet, Call, Nothing}
use Rattle.grs_wire.specs.History.{removes}
use Rattle.grs_wire.specs.Masks.{has}
use Rattle.grs_wire.specs.declared.deck.Choice.TheVariants.{Purge}
use Rattle.grs_wire.specs.declared.deck.Deck.{Deck}
use Rattle.grs_wire.specs.declared.deck.Event.{Event}
use Rattle.grs_wire.specs.declared.history.HistEntry.{HistEntry}
use Rattle.grs_wire.specs.declared.history.HistEntry.TheVariants.{Remove}
use Rattle.grs_wire.specs.declared.medium.Call.{Call as MediumCall}
use Rattle.grs_wire.specs.declared.medium.Reply.{Reply}
use Rattle.grs_wire.specs.declared.medium.Reply.TheVariants as replies
use Rattle.grs_wire.specs.declared.medium.RingEntry.{RingEntry}
use Rattle.grs_world.specs.Kept.{places}
use Rattle.grs_world.specs.Running.{is_live}
use Rattle.grs_world.specs.World.{World, run, hist, happens, counted}

-- ---- the answers

-- the call that was prepared, if one was
abbrev pub call_in : Prepared → Option MediumCall
call_in Quiet = None
call_in (Call call) = Some call
call_in Nothing = None

-- the call that an event makes, if its system is there and live, and it makes one
abbrev pub call_at : Deck → World → Event → Option NodeState → Option MediumCall
call_at deck w e None = None
call_at deck w e (Some n) = cond (is_live w e.system) (call_in (prepare deck n e.choice)) None

abbrev pub call_of : Deck → World → Event → Option MediumCall
call_of deck w e = call_at deck w e (slice_get w.nodes e.system.0)

-- the reply to it
abbrev pub reply_by : MediumState → SysId → Option MediumCall → Option Reply
reply_by m s None = None
reply_by m s (Some call) = Some (reply_to m s call)

abbrev pub reply_of : Deck → World → Event → Option Reply
reply_of deck w e = reply_by w.medium e.system (call_of deck w e)

-- An event makes a call, whose system knows which systems were removed.
pub record CallsKnowing (deck : Deck) (w : World) (e : Event) : Type 0 where
  pub call : MediumCall
  pub made : call_of deck w e ≡ Some call
  pub knows : call.known ≡ w.medium.removed

-- An event makes a call, whose system doesn't know that.
pub record CallsUnknowing (deck : Deck) (w : World) (e : Event) : Type 0 where
  pub call : MediumCall
  pub made : call_of deck w e ≡ Some call
  pub unknowing : call.known ≢ w.medium.removed

-- Behind these events a system is removed exactly where the history has its removal.
abbrev pub RemovedAreInHistory : Deck → List Event → Type 0
RemovedAreInHistory deck es = (s : SysId) → has (run deck es).medium.removed s.0 ≡ list_any (removes s) (hist deck es)

-- an event behind these comes to a removal of this system, and is answered so
abbrev pub IsAnswered : Deck → List Event → Event → SysId → Reply → Type 0
IsAnswered deck es e target reply = (e.choice ≡ Purge target) × (reply_of deck (run deck es) e ≡ Some reply)

-- When an event behind these is answered what has to do with removals.
pub record AnswersHaveCauses (deck : Deck) (es : List Event) (e : Event) : Type 0 where
  -- nobody is answered that he was removed: the events of a removed system do nothing
  pub removed : reply_of deck (run deck es) e ≢ Some replies.Removed
  pub idle : is_live (run deck es) e.system ≡ false → happens deck (run deck es) e ≡ counted (run deck es)
  -- a system is told which were removed exactly where it doesn't know it
  pub stale : (set : ℕ) → (reply_of deck (run deck es) e ≡ Some (replies.Stale set))
      ↔ (CallsUnknowing deck (run deck es) e × (set ≡ (run deck es).medium.removed))
  -- there is no such system exactly where it was removed before
  pub no_such : (target : SysId) → e.choice ≡ Purge target
      → (reply_of deck (run deck es) e ≡ Some replies.NoSuch)
      ↔ (CallsKnowing deck (run deck es) e × (list_any (removes target) (hist deck es) ≡ true))

-- ---- the history

-- A removal is one entry of the history, at the event that makes it: the entries before it stay as they are.
abbrev pub RemovalsAreEntries : Deck → List Event → Event → Type 0
RemovalsAreEntries deck es e =
    (target : SysId) → IsAnswered deck es e target replies.Purged
    → hist deck (es ++ e ∷ []) ≡ hist deck es ++ Remove e.system target ∷ []

-- No entry of a task of the system stands behind it.
abbrev pub NoneFollows : Deck → List Event → Type 0
NoneFollows deck es =
    (before behind : List HistEntry) (by target : SysId) (t : TaskId)
    → hist deck es ≡ before ++ Remove by target ∷ behind
    → t.system.0 ≡ target.0 → entries_of t behind ≡ []

-- ---- owners and waiters

-- By a removal the elements of that system's tasks leave each list of the whole complex; the others stay, in their
-- order, and so do the lists of single systems. Who owns and isn't of that system still owns.
pub record OthersStay (deck : Deck) (es : List Event) (e : Event) (target : SysId) : Type 0 where
  pub lists : (r : Res)
      → places deck (es ++ e ∷ []) r
      ≡ cond (is_systems r) (filter (is_of_other target.0) (places deck es r)) (places deck es r)
  pub owners : (r : Res) (t : TaskId) → t.system.0 ≢ target.0 → owns (places deck es r) t ≡ true
      → owns (places deck (es ++ e ∷ []) r) t ≡ true

abbrev pub RemovalsKeepOthers : Deck → List Event → Event → Type 0
RemovalsKeepOthers deck es e =
    (target : SysId) → IsAnswered deck es e target replies.Purged → OthersStay deck es e target

-- ---- the message

-- Behind these events the message waits for no removed system: no entry has still to go to one, and in ring mode, where
-- some system is live, the message stands at a live one.
pub record MessageGoesOn (deck : Deck) (es : List Event) : Type 0 where
  pub masks : (x : RingEntry) (s : SysId) → Contains (run deck es).medium.message.entries x → has x.mask s.0 ≡ true
      → is_live (run deck es) s ≡ true
  pub holder : (s : SysId) → (run deck es).medium.star ≡ false → is_live (run deck es) s ≡ true
      → (h : SysId) × ((run deck es).medium.message.holder ≡ Some h) × (is_live (run deck es) h ≡ true)
