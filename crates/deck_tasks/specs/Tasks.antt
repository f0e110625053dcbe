-- The tasks of a deck in the order of the deck.
use Rattle.std.specs.Prelude.{ℕ, ◌+◌, List, [], ◌∷◌, ◌++◌, length}
use Rattle.grs_base.specs.declared.resource.SysId.{SysId}
use Rattle.grs_base.specs.declared.resource.TaskId.{TaskId}
use Rattle.grs_wire.specs.declared.deck.TaskDef.{TaskDef}
use Rattle.grs_wire.specs.declared.deck.JobDef.{JobDef}
use Rattle.grs_wire.specs.declared.deck.SystemDef.{SystemDef}
use Rattle.grs_wire.specs.declared.deck.Deck.{Deck}

-- so many tasks of one job, of which the first has this place in its system
abbrev pub tasks_in : SysId → ℕ → ℕ → List TaskDef → List TaskId
tasks_in s job place [] = []
tasks_in s job place (t ∷ ts) = record { system = s; job = job; task = place } ∷ tasks_in s job (place + 1) ts

-- the tasks of these jobs of a system: the first job has this place, and its first task that one
abbrev pub tasks_from : SysId → ℕ → ℕ → List JobDef → List TaskId
tasks_from s job place [] = []
tasks_from s job place (j ∷ js) = tasks_in s job place j.tasks ++ tasks_from s (job + 1) (place + length j.tasks) js

-- the tasks of these systems, of which the first has this place
abbrev pub tasks_of_systems : ℕ → List SystemDef → List TaskId
tasks_of_systems place [] = []
tasks_of_systems place (s ∷ ss) = tasks_from (record { 0 = place }) 0 0 s.jobs ++ tasks_of_systems (place + 1) ss

-- the tasks of a deck: system by system and job by job
abbrev pub tasks_of : Deck → List TaskId
tasks_of deck = tasks_of_systems 0 deck.systems
