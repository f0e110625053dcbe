-- The names of a deck, and the words that are made of them.
use Rattle.std.specs.Prelude.{ℕ, List, [], ◌∷◌, ◌++◌, map, slice_get, unwrap_or}
use Rattle.std.specs.List.{flat_map}
use Rattle.grs_base.specs.declared.resource.TaskId.{TaskId}
use Rattle.grs_wire.specs.declared.seen.Names.{Names}
use Rattle.grs_wire.specs.declared.deck.TaskDef.{TaskDef}
use Rattle.grs_wire.specs.declared.deck.JobDef.{JobDef}
use Rattle.grs_wire.specs.declared.deck.Deck.{Deck}

abbrev pub names_of_tasks : List TaskDef → List (List ℕ)
names_of_tasks tasks = map (λ t. t.name) tasks

abbrev pub names_of_jobs : List JobDef → List (List ℕ)
names_of_jobs jobs = map (λ j. j.name) jobs

-- the names of all tasks of a system, job by job
abbrev pub names_in_jobs : List JobDef → List (List ℕ)
names_in_jobs jobs = flat_map (λ j. names_of_tasks j.tasks) jobs

-- the names of a deck
unfoldable pub names_of : Deck → Names
names_of deck = record {
  systems = map (λ s. s.name) deck.systems;
  jobs = map (λ s. names_of_jobs s.jobs) deck.systems;
  tasks = map (λ s. names_in_jobs s.jobs) deck.systems;
}

-- the name at a place, and no byte where there is none
unfoldable pub name_at : List (List ℕ) → ℕ → List ℕ
name_at names place = unwrap_or (slice_get names place) []

-- the name at a place of the list at a place
unfoldable pub name_in : List (List (List ℕ)) → ℕ → ℕ → List ℕ
name_in lists at place = name_at (unwrap_or (slice_get lists at) []) place

-- j.t: a task by the names of its job and its own
unfoldable pub task_in_job : Names → TaskId → List ℕ
task_in_job names t = name_in names.jobs t.system.0 t.job ++ (46 ∷ name_in names.tasks t.system.0 t.task)

-- s.j.t: a task with the name of its system
unfoldable pub task_word : Names → TaskId → List ℕ
task_word names t = name_at names.systems t.system.0 ++ (46 ∷ task_in_job names t)
