-- What was told, system by system and task by task.
use Rattle.std.specs.Prelude.{ℕ, ◌+◌, ◌==◌, Bool, true, false, List, [], ◌∷◌, ◌++◌, length, filter, codes}
use Rattle.std.specs.Prelude.{if◌then◌else◌}
use Rattle.std.specs.Fmt.{decimal}
use Rattle.std.specs.List.{flat_map}
use Rattle.grs_base.specs.Same.{same_task}
use Rattle.grs_base.specs.declared.resource.TaskId.{TaskId}
use Rattle.grs_wire.specs.ToldTo.{is_told_to}
use Rattle.grs_wire.specs.declared.deck.TaskDef.{TaskDef}
use Rattle.grs_wire.specs.declared.deck.JobDef.{JobDef}
use Rattle.grs_wire.specs.declared.deck.SystemDef.{SystemDef}
use Rattle.grs_wire.specs.declared.told.ToldLine.{ToldLine}
use Rattle.grs_wire.specs.declared.told.ToldLine.TheVariants.{Coded, Shown, Post, Ended, Desk}
use Rattle.grs_wire.specs.declared.told.Told.{Told}
use Rattle.grs_wire.specs.declared.seen.Names.{Names}
use Rattle.grs_wire.specs.declared.seen.TaskEnd.{TaskEnd}
use Rattle.grs_wire.specs.declared.seen.TaskEnd.TheVariants as ends
use Rattle.grs_display.specs.Lines.{line}
use Rattle.grs_display.specs.Rows.{row_line}
use Rattle.grs_report.specs.Spelled.{verb_word, code_word, event_word, three_digits, end_word, order_word, said_word}

-- a told line with the number of its event, and the rows that it shows
unfoldable pub told_line : Names → ℕ → ToldLine → List ℕ
told_line names e (Coded t k part verb code) =
    line (codes "T" ∷ decimal k ∷ verb_word verb ∷ code_word code ∷ event_word e ∷ [])
told_line names e (Shown t k verb code rows) =
    line (codes "T" ∷ decimal k ∷ verb_word verb ∷ code_word code ∷ decimal (length rows) ∷ event_word e ∷ [])
    ++ flat_map (row_line names 82) rows
told_line names e (Post t k) = line (codes "T" ∷ decimal k ∷ codes "POST" ∷ event_word e ∷ [])
told_line names e (Ended t code) = line (codes "T" ∷ codes "END" ∷ three_digits code ∷ event_word e ∷ [])
told_line names e (Desk k said) = line (codes "D" ∷ decimal k ∷ order_word said ∷ said_word said ∷ event_word e ∷ [])

-- told lines in order
abbrev pub told_lines : Names → List Told → List ℕ
told_lines names told = flat_map (λ t. told_line names t.event t.line) told

-- whether a line is told at a system's desk
abbrev pub is_told_at_desk : ToldLine → Bool
is_told_at_desk (Desk k said) = true
is_told_at_desk _ = false

-- the task at these places
abbrev pub task_at : ℕ → ℕ → ℕ → TaskId
task_at system job task = record { system = record { 0 = system }; job = job; task = task }

-- what one system told
abbrev pub told_by : ℕ → List Told → List Told
told_by system told = filter (λ t. t.system.0 == system) told

-- what one task was told
abbrev pub told_to : TaskId → List Told → List Told
told_to task told = filter (λ t. is_told_to task t.line) told

-- what was told at a desk
abbrev pub told_at_desk : List Told → List Told
told_at_desk told = filter (λ t. is_told_at_desk t.line) told

-- how a task stands at the end, by its first entry
abbrev pub end_of : TaskId → List (TaskId × TaskEnd) → TaskEnd
end_of task [] = ends.Open
end_of task ((t, e) ∷ es) = if same_task task t then e else end_of task es

-- a task's name, what it was told, and how it stands at the end
unfoldable pub task_text : Names → List Told → List (TaskId × TaskEnd) → List ℕ → TaskId → List ℕ → List ℕ
task_text names told ended job task name =
    (line (codes "TASK" ∷ (job ++ (46 ∷ name)) ∷ []) ++ told_lines names (told_to task told))
    ++ line (codes "S" ∷ end_word (end_of task ended) ∷ [])

-- the tasks of a job, of which the first is at the place first of its system
abbrev pub tasks_text : Names → List Told → List (TaskId × TaskEnd) → List ℕ → ℕ → ℕ → ℕ → List TaskDef → List ℕ
tasks_text names told ended name system job first [] = []
tasks_text names told ended name system job first (t ∷ ts) =
    task_text names told ended name (task_at system job first) t.name
    ++ tasks_text names told ended name system job (first + 1) ts

-- the jobs of a system from a job on, of whose tasks the first is at the place first
abbrev pub jobs_text : Names → List Told → List (TaskId × TaskEnd) → ℕ → ℕ → ℕ → List JobDef → List ℕ
jobs_text names told ended system job first [] = []
jobs_text names told ended system job first (j ∷ js) =
    tasks_text names told ended j.name system job first j.tasks
    ++ jobs_text names told ended system (job + 1) (first + length j.tasks) js

-- a system's name, what was told at its desk, and its tasks with what it told them
unfoldable pub system_text : Names → List Told → List (TaskId × TaskEnd) → ℕ → SystemDef → List ℕ
system_text names told ended system s =
    (line (codes "SYSTEM" ∷ s.name ∷ []) ++ told_lines names (told_at_desk (told_by system told)))
    ++ jobs_text names (told_by system told) ended system 0 0 s.jobs

-- systems, of which the first is at this place
abbrev pub systems_text : Names → List Told → List (TaskId × TaskEnd) → ℕ → List SystemDef → List ℕ
systems_text names told ended system [] = []
systems_text names told ended system (s ∷ ss) =
    system_text names told ended system s ++ systems_text names told ended (system + 1) ss

unfoldable pub told_text : Names → List Told → List (TaskId × TaskEnd) → List SystemDef → List ℕ
told_text names told ended systems = line (codes "TOLD" ∷ []) ++ systems_text names told ended 0 systems
