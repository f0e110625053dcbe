-- Where systems, jobs and tasks of a deck stand.
use Rattle.std.specs.Prelude.{ℕ, ◌+◌, ◌==◌, List, [], ◌∷◌, take, position, slice_get, Option, Some, None, if◌then◌else◌}
use Rattle.std.specs.Str.{bytes_eq}
use Rattle.grs_base.specs.declared.resource.SysId.{SysId}
use Rattle.grs_base.specs.declared.resource.TaskId.{TaskId}
use Rattle.grs_wire.specs.Decks.{task_count}
use Rattle.grs_wire.specs.declared.deck.TaskDef.{TaskDef}
use Rattle.grs_wire.specs.declared.deck.Desk.{Desk}
use Rattle.grs_wire.specs.declared.deck.JobDef.{JobDef}
use Rattle.grs_wire.specs.declared.deck.SystemDef.{SystemDef}
use Rattle.grs_wire.specs.declared.deck.Event.{Event}
use Rattle.grs_wire.specs.declared.deck.Choice.{Choice}
use Rattle.grs_wire.specs.declared.deck.Choice.TheVariants as choices
use Rattle.deck_form.specs.SystemNames.{name_place}
use Rattle.deck_form.specs.declared.command.GivenOrder.{GivenOrder}
use Rattle.deck_form.specs.declared.command.GivenOrder.TheVariants as orders
use Rattle.deck_form.specs.declared.event.EventAct.{EventAct}
use Rattle.deck_form.specs.declared.event.EventAct.TheVariants as acts
use Rattle.deck_form.specs.declared.form.Stmt.{Stmt}
use Rattle.deck_form.specs.declared.form.Stmt.TheVariants as stmts
use Rattle.deck_scan.specs.Next.{◌>>=◌}

-- What the last item has.
abbrev pub at_last : {A B : Type 0} → (A → List B) → List A → List B
at_last f [] = []
at_last f (x ∷ []) = f x
at_last f (x ∷ y ∷ ys) = at_last f (y ∷ ys)

-- The jobs of the last system.
abbrev pub jobs_now : List SystemDef → List JobDef
jobs_now systems = at_last (λ s. s.jobs) systems

-- The name of the last system, and the commands at its desk.
abbrev pub name_now : List SystemDef → List ℕ
name_now systems = at_last (λ s. s.name) systems

abbrev pub desk_now : List SystemDef → List Desk
desk_now systems = at_last (λ s. s.desk) systems

-- The tasks of the last job.
abbrev pub tasks_now : List JobDef → List TaskDef
tasks_now jobs = at_last (λ j. j.tasks) jobs

-- Where the first of this name stands.
unfoldable pub system_place : List SystemDef → List ℕ → Option ℕ
system_place systems name = position (λ s. bytes_eq s.name name) systems

unfoldable pub job_place : List JobDef → List ℕ → Option ℕ
job_place jobs name = position (λ j. bytes_eq j.name name) jobs

unfoldable pub task_place : List TaskDef → List ℕ → Option ℕ
task_place tasks name = position (λ t. bytes_eq t.name name) tasks

abbrev pub system_id : ℕ → SysId
system_id n = record { 0 = n }

-- What is seen of a value that may be there.
abbrev pub seen : {X Y : Type 0} → (X → Y) → Option X → Option Y
seen view None = None
seen view (Some x) = Some (view x)

-- The system of this name, and its number.
abbrev pub system_at : List SystemDef → List ℕ → Option (SysId × SystemDef)
system_at systems name = do
  i ← system_place systems name
  s ← slice_get systems i
  Some (system_id i, s)

-- The task of these names in a system: the job's place, and the task's place among all tasks of the system.
abbrev pub task_in : SysId → SystemDef → List ℕ → List ℕ → Option TaskId
task_in id s job task = do
  j ← job_place s.jobs job
  held ← slice_get s.jobs j
  k ← task_place held.tasks task
  Some (record { system = id; job = j; task = task_count (take j s.jobs) + k })

-- A system that isn't this one.
abbrev pub unless_own : SysId → SysId → Option Choice
unless_own id other = if other.0 == id.0 then None else Some (choices.Purge other)

-- What a system does, where each name that it says is known.
abbrev pub choice_of : List SystemDef → SysId → SystemDef → EventAct → Option Choice
choice_of systems id s (acts.Task j t) = task_in id s j t >>= λ k. Some (choices.Task k)
choice_of systems id s acts.Turn = Some choices.Turn
choice_of systems id s (acts.Send j t) = task_in id s j t >>= λ k. Some (choices.Send k)
choice_of systems id s acts.Take = Some choices.Take
choice_of systems id s acts.Settle = Some choices.Settle
choice_of systems id s (acts.Tell e) = Some (choices.Tell e)
choice_of systems id s (acts.Part e) = Some (choices.Part e)
choice_of systems id s (acts.Leave e) = Some (choices.Leave e)
choice_of systems id s acts.Switch = Some choices.Switch
choice_of systems id s (acts.Purge n) = system_at systems n >>= λ x. unless_own id x.0
choice_of systems id s acts.Rest = Some choices.Rest

-- The event of an event line, where each name that it says is known.
abbrev pub event_of : List SystemDef → List ℕ → EventAct → Option Event
event_of systems name act = do
  x ← system_at systems name
  c ← choice_of systems x.0 x.1 act
  Some (record { system = x.0; choice = c })

-- Where the name that is commanded to be removed stands among these for the first time.
abbrev pub place_ordered : List (List ℕ) → GivenOrder → Option ℕ
place_ordered names orders.Star = None
place_ordered names (orders.Vary n) = name_place names n

abbrev pub place_in : List (List ℕ) → Stmt → Option ℕ
place_in names (stmts.Command c) = place_ordered names c.order
place_in names _ = None

-- The event that a statement is: that of an event line.
abbrev pub event_in : List SystemDef → Stmt → Option Event
event_in systems (stmts.Event name act) = event_of systems name act
event_in systems _ = None
