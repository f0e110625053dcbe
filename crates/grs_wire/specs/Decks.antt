-- What a deck is like that is read: within the limits, and its events speak of what is there.
use Rattle.std.specs.Prelude.{◌≡◌, ◌≢◌, ℕ, true, ◌+◌, ◌<◌, ◌≤◌, List, [], ◌∷◌, length, take, map, filter, slice_get}
use Rattle.std.specs.Prelude.{Some, All}
use Rattle.std.specs.List.{flat_map, AllPairs}
use Rattle.grs_base.specs.Limits.{most_systems, most_commands, most_jobs, most_tasks, most_lines, most_displays}
use Rattle.grs_base.specs.Limits.{is_entries, is_limit}
use Rattle.grs_base.specs.ShortNames.{IsShortName}
use Rattle.grs_base.specs.Lines.{IsDeckLine, is_display}
use Rattle.grs_base.specs.declared.line.Line.{Line}
use Rattle.grs_base.specs.declared.resource.SysId.{SysId}
use Rattle.grs_base.specs.declared.resource.TaskId.{TaskId}
use Rattle.grs_base.specs.NameLists.{AreLists, AreEntries}
use Rattle.grs_wire.specs.declared.deck.Desk.{Desk}
use Rattle.grs_wire.specs.declared.deck.JobDef.{JobDef}
use Rattle.grs_wire.specs.declared.deck.Order.{Order}
use Rattle.grs_wire.specs.declared.deck.Order.TheVariants.{Star, Vary}
use Rattle.grs_wire.specs.declared.deck.SystemDef.{SystemDef}
use Rattle.grs_wire.specs.declared.deck.Event.{Event}
use Rattle.grs_wire.specs.declared.deck.Choice.{Choice}
use Rattle.grs_wire.specs.declared.deck.Choice.TheVariants as choices
use Rattle.grs_wire.specs.declared.deck.Deck.{Deck}

-- How many tasks the jobs have together.
abbrev pub task_count : List JobDef → ℕ
task_count [] = 0
task_count (j ∷ js) = length j.tasks + task_count js

-- A system is within its limits of commands at its desk, of jobs and of tasks.
pub record IsWithin (s : SystemDef) : Type 0 where
  pub desk : length s.desk ≤ most_commands
  pub jobs : length s.jobs ≤ most_jobs
  pub tasks : task_count s.jobs ≤ most_tasks

-- What may be commanded at the desk of the system of this number, of so many: a removal is of another system.
abbrev pub IsOrderOf : ℕ → ℕ → Order → Type 0
IsOrderOf systems s Star = Unit {0}
IsOrderOf systems s (Vary target) = (target.0 < systems) × (target.0 ≢ s)

-- The commands at the desks of these systems, of which the first has this number.
abbrev pub AreOrders : ℕ → ℕ → List SystemDef → Type 0
AreOrders systems s [] = Unit {0}
AreOrders systems s (d ∷ ds) = All (λ (c : Desk). IsOrderOf systems s c.order) d.desk × AreOrders systems (s + 1) ds

-- The systems are within their limit, and each is within its own.
pub record Fits (systems : List SystemDef) : Type 0 where
  pub few : length systems ≤ most_systems
  pub each : All IsWithin systems

-- The names of the systems, their jobs and their tasks.
abbrev pub all_names : List SystemDef → List (List ℕ)
all_names systems = flat_map (λ s. s.name ∷ flat_map (λ j. j.name ∷ map (λ t. t.name) j.tasks) s.jobs) systems

-- No two of these names are the same.
abbrev pub AreDistinct : List (List ℕ) → Type 0
AreDistinct names = AllPairs (λ x y. x ≢ y) names

-- No two jobs of a system have one name, nor two tasks of one of its jobs.
pub record IsNamedOnce (s : SystemDef) : Type 0 where
  pub jobs : AreDistinct (map (λ j. j.name) s.jobs)
  pub tasks : All (λ (j : JobDef). AreDistinct (map (λ t. t.name) j.tasks)) s.jobs

-- No two systems have one name, nor two jobs of one system, nor two tasks of one job.
pub record AreNamedOnce (systems : List SystemDef) : Type 0 where
  pub names : AreDistinct (map (λ s. s.name) systems)
  pub each : All IsNamedOnce systems

-- The lines of all tasks of these systems.
abbrev pub all_lines : List SystemDef → List Line
all_lines systems = flat_map (λ s. flat_map (λ j. flat_map (λ t. t.lines) j.tasks) s.jobs) systems

-- The task lines: at most 16,384, of which at most 256 show something. Each is one that is read back from its
-- printed form: an ENQ has one item, and names, filters and units are within their limits.
pub record AreLines (all : List Line) : Type 0 where
  pub few : length all ≤ most_lines
  pub displays : length (filter is_display all) ≤ most_displays
  pub each : All IsDeckLine all

-- A task of a system: its job stands in the system, and the task in the job, at this place among all
-- tasks of the system.
pub record IsTaskOf (s : SystemDef) (id : SysId) (t : TaskId) : Type 0 where
  pub job : JobDef
  pub place : ℕ
  pub system : t.system ≡ id
  pub held : slice_get s.jobs t.job ≡ Some job
  pub below : place < length job.tasks
  pub at : t.task ≡ task_count (take t.job s.jobs) + place

-- What a system may do: with its own tasks, with an entry that there is, with another system.
abbrev pub IsChoiceOf : List SystemDef → ℕ → SystemDef → SysId → Choice → Type 0
IsChoiceOf systems entries s id (choices.Task t) = IsTaskOf s id t
IsChoiceOf systems entries s id (choices.Send t) = IsTaskOf s id t
IsChoiceOf systems entries s id (choices.Tell e) = e < entries
IsChoiceOf systems entries s id (choices.Part e) = e < entries
IsChoiceOf systems entries s id (choices.Leave e) = e < entries
IsChoiceOf systems entries s id (choices.Purge other) = (other.0 < length systems) × (other.0 ≢ id.0)
IsChoiceOf systems entries s id _ = Unit {0}

-- An event of a system that there is.
pub record IsEventOf (systems : List SystemDef) (entries : ℕ) (e : Event) : Type 0 where
  pub found : SystemDef
  pub system : slice_get systems e.system.0 ≡ Some found
  pub below : e.system.0 < length systems
  pub choice : IsChoiceOf systems entries found e.system e.choice

-- What is asked of a deck that is run: at least one system and at most eight, each with at most 64 commands at its
-- desk, 64 jobs and 64 tasks; no system that is to remove itself, or one that isn't there; at most 16,384 task lines,
-- of which at most 256 show something; one of the numbers of entries and of the limits that there may be; and the
-- three name lists. Names, what stands in a line, and events may be any.
pub record IsBounded (d : Deck) : Type 0 where
  pub some : 0 < length d.systems
  pub fits : Fits d.systems
  pub orders : AreOrders (length d.systems) 0 d.systems
  pub few : length (all_lines d.systems) ≤ most_lines
  pub displays : length (filter is_display (all_lines d.systems)) ≤ most_displays
  pub entries : is_entries d.entries ≡ true
  pub limit : is_limit d.limit ≡ true
  pub lists : AreLists d.lists

-- A deck, in ring mode or in star mode: at least one system and at most eight, each with at most 64 commands at its
-- desk, 64 jobs and 64 tasks, all with names of their form that are given once; no system that is to remove itself, or
-- one that isn't there; at most 16,384 task lines, of which at most 256 show something; one of the numbers of entries
-- and of the limits that there may be; the three name lists; and events of its systems.
pub record IsDeck (d : Deck) : Type 0 where
  pub some : 0 < length d.systems
  pub fits : Fits d.systems
  pub names : All IsShortName (all_names d.systems)
  pub once : AreNamedOnce d.systems
  pub orders : AreOrders (length d.systems) 0 d.systems
  pub lines : AreLines (all_lines d.systems)
  pub entries : is_entries d.entries ≡ true
  pub limit : is_limit d.limit ≡ true
  pub lists : AreLists d.lists
  pub named : AreEntries d.lists
  pub events : All (IsEventOf d.systems d.entries) d.events
