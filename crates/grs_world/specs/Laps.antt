-- A request comes back last. It goes with the message from system to system, and its asker is answered when the
-- message has come back to the system that put it in: by then no other system has still to process it.
use Rattle.std.specs.Prelude.{◌≡◌, ◌≢◌, ℕ, Bool, true, false, drop, length, List, [], ◌∷◌, ◌++◌, Option, Some, None}
use Rattle.std.specs.Prelude.{slice_get}
use Rattle.std.specs.List.{list_any}
use Rattle.grs_base.specs.Same.{same_task}
use Rattle.grs_base.specs.declared.resource.SysId.{SysId}
use Rattle.grs_base.specs.declared.resource.TaskId.{TaskId}
use Rattle.grs_medium.specs.Apply.{reply_to}
use Rattle.grs_medium.specs.Medium.{MediumState}
use Rattle.grs_node.specs.Node.{NodeState, prepare}
use Rattle.grs_node.specs.declared.prepared.Prepared.{Prepared}
use Rattle.grs_node.specs.declared.prepared.Prepared.TheVariants.{Quiet, Call, Nothing}
use Rattle.grs_wire.specs.Masks.{has}
use Rattle.grs_wire.specs.declared.deck.Deck.{Deck}
use Rattle.grs_wire.specs.declared.deck.Event.{Event}
use Rattle.grs_wire.specs.declared.medium.Reply.{Reply}
use Rattle.grs_wire.specs.declared.medium.Reply.TheVariants.{Turned}
use Rattle.grs_wire.specs.declared.medium.RingBody.TheVariants.{Request}
use Rattle.grs_wire.specs.declared.medium.RingEntry.{RingEntry}
use Rattle.grs_wire.specs.declared.request.Req.{Req}
use Rattle.grs_wire.specs.declared.told.Told.{Told}
use Rattle.grs_wire.specs.declared.told.ToldLine.{ToldLine}
use Rattle.grs_wire.specs.declared.told.ToldLine.TheVariants.{Coded, Shown}
use Rattle.rsa_message.specs.Message.{Message, stands_at}
use Rattle.grs_world.specs.World.{World, run, told}

-- No system but this one has still to process the entry.
abbrev pub OnlyLeft : SysId → RingEntry → Type 0
OnlyLeft s entry = (u : ℕ) → u ≢ s.0 → has entry.mask u ≡ false

-- Wherever this message stands, no other system than the one there has still to process a request that this one put
-- in. Of an entry that removes a system this isn't said.
abbrev pub LastAtHome : Message → Type 0
LastAtHome m =
    (s : SysId) (before behind : List RingEntry) (entry : RingEntry) (q : Req) → m.entries ≡ before ++ entry ∷ behind
    → entry.body ≡ Request q → entry.from ≡ s → stands_at m.holder s ≡ true → OnlyLeft s entry

-- So it is in each world that a run reaches.
abbrev pub ComesBackLast : Type 0
ComesBackLast = (deck : Deck) → deck.star ≡ false → (events : List Event) → LastAtHome (run deck events).medium.message

-- ---- the event that answers
-- A reply gives a system these entries to process, each as it stood in the message.
abbrev pub given_by : Reply → List RingEntry
given_by (Turned es taken closed) = es
given_by _ = []

abbrev pub given_when : MediumState → SysId → Prepared → List RingEntry
given_when m s (Call call) = given_by (reply_to m s call)
given_when m s Quiet = []
given_when m s Nothing = []

abbrev pub given_at : Deck → World → Event → Option NodeState → List RingEntry
given_at deck w e None = []
given_at deck w e (Some n) = given_when w.medium e.system (prepare deck n e.choice)

-- An event gives its system what the reply to its call gives, if it makes one.
abbrev pub given : Deck → World → Event → List RingEntry
given deck w e = given_at deck w e (slice_get w.nodes e.system.0)

-- Where the next event gives a system a request that this system put in, which is then answered, every other system
-- has processed it before.
abbrev pub ProcessedLast : Deck → List Event → Event → Type 0
ProcessedLast deck es e =
    (before behind : List RingEntry) (entry : RingEntry) (q : Req)
    → given deck (run deck es) e ≡ before ++ entry ∷ behind
    → entry.body ≡ Request q → entry.from ≡ e.system → OnlyLeft e.system entry

-- A line answers a task where it tells it a code or a display.
abbrev pub answers : TaskId → ToldLine → Bool
answers t (Coded u k part verb code) = same_task t u
answers t (Shown u k verb code rows) = same_task t u
answers t _ = false

-- The next event tells what is told behind it and wasn't before.
abbrev pub told_next : Deck → List Event → Event → List Told
told_next deck es e = drop (length (told deck es)) (told deck (es ++ e ∷ []))

-- Of these entries no other system than a task's own has still to process a request of that task.
abbrev pub LeftHome : TaskId → List RingEntry → Type 0
LeftHome t es =
    (before behind : List RingEntry) (entry : RingEntry) (q : Req) → es ≡ before ++ entry ∷ behind
    → entry.body ≡ Request q → q.task ≡ t → OnlyLeft t.system entry

-- Where the next event tells a task an answer, no other system has still to process a request of that task which
-- stands in the message, neither before that event nor behind it. So of a request that went into the message every
-- other system has processed it before its answer is told; and no request is answered by the very event that puts it
-- in.
abbrev pub AnsweredLast : Deck → List Event → Event → Type 0
AnsweredLast deck es e =
    (t : TaskId) → list_any (λ x. answers t x.line) (told_next deck es e) ≡ true
    → LeftHome t (run deck es).medium.message.entries × LeftHome t (run deck (es ++ e ∷ [])).medium.message.entries
