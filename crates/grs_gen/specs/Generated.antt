-- The deck of a number: a ring of up to eight systems, whose tasks ask for up to eight of sixteen resources, one behind
-- the other, while the first system's desk changes the complex to star mode.
use Rattle.std.specs.Prelude.{ℕ, Bool, true, false, ◌+◌, ◌%◌, ◌≤◌, ◌==◌, cond, List, [], ◌∷◌, ◌++◌, map, codes, min}
use Rattle.std.specs.Prelude.{None}
use Rattle.std.specs.Fmt.{decimal}
use Rattle.std.specs.List.{flat_map, range_with_len}
use Rattle.grs_base.specs.Limits.{most_limit, most_tasks}
use Rattle.grs_base.specs.Rnl.{no_entries}
use Rattle.grs_base.specs.declared.line.Line.{Line}
use Rattle.grs_base.specs.declared.line.Line.TheVariants.{Enq, Deq}
use Rattle.grs_base.specs.declared.line.Scope.TheVariants.{Systems}
use Rattle.grs_base.specs.declared.resource.Ctl.{Ctl}
use Rattle.grs_base.specs.declared.resource.Ctl.TheVariants.{E, S}
use Rattle.grs_base.specs.declared.resource.Ret.TheVariants.{RetNone}
use Rattle.grs_base.specs.declared.rnl.Which.TheVariants.{Incl, Excl, Con}
use Rattle.grs_wire.specs.declared.deck.Deck.{Deck}
use Rattle.grs_wire.specs.declared.deck.Desk.{Desk}
use Rattle.grs_wire.specs.declared.deck.JobDef.{JobDef}
use Rattle.grs_wire.specs.declared.deck.Order.TheVariants.{Star}
use Rattle.grs_wire.specs.declared.deck.SystemDef.{SystemDef}
use Rattle.grs_wire.specs.declared.deck.TaskDef.{TaskDef}

-- the numbers of which decks are made: that of the tasks of a system
abbrev pub IsSize : ℕ → Type 0
IsSize n = (1 ≤ n) × (n ≤ most_tasks)

-- one system to eight
abbrev pub system_count : ℕ → ℕ
system_count n = 1 + n % 8

-- for how many resources a task asks
abbrev pub asked_count : ℕ → ℕ
asked_count n = min n 8

-- SYA, SYB, SYC and so on, from number 0
abbrev pub system_name : ℕ → List ℕ
system_name i = codes "SY" ++ (65 + i) ∷ []

-- a letter and a number: T1 is a task, R0 is the rname of a resource
abbrev pub numbered : ℕ → ℕ → List ℕ
numbered letter k = letter ∷ decimal k

-- the rname of the resource for which a task asks as its j-th: task and j are numbered from 1
abbrev pub resource_name : ℕ → ℕ → List ℕ
resource_name k j = numbered 82 ((k + j) % 16)

-- exclusive control every third time, by system, task and resource
abbrev pub control_of : ℕ → ℕ → ℕ → Ctl
control_of i k j = cond ((i + k + j) % 3 == 0) E S

-- ENQ (GEN,Rm,c,SYSTEMS)
abbrev pub enq_line : ℕ → ℕ → ℕ → Line
enq_line i k j =
    Enq (record { q = codes "GEN"; r = resource_name k j; ctl = control_of i k j; scope = Systems } ∷ []) RetNone true

-- DEQ (GEN,Rm,SYSTEMS)
abbrev pub deq_line : ℕ → ℕ → Line
deq_line k j = Deq (codes "GEN") (resource_name k j) Systems false None true

-- a task gives each resource back before it asks for the next one
abbrev pub lines_of : ℕ → ℕ → ℕ → List Line
lines_of n i k = flat_map (λ j. enq_line i k j ∷ deq_line k j ∷ []) (range_with_len 1 (asked_count n))

abbrev pub task_of : ℕ → ℕ → ℕ → TaskDef
task_of n i k = record { name = numbered 84 k; lines = lines_of n i k }

-- the job of the system of this number: J1, with the tasks T1, T2 and so on
abbrev pub job_of : ℕ → ℕ → JobDef
job_of n i = record { name = codes "J1"; tasks = map (task_of n i) (range_with_len 1 n) }

-- AT 0 SETGRS MODE=STAR, at the first system alone
abbrev pub desk_of : ℕ → List Desk
desk_of i = cond (i == 0) (record { at = 0; order = Star } ∷ []) []

abbrev pub system_of : ℕ → ℕ → SystemDef
system_of n i = record { name = system_name i; desk = desk_of i; jobs = job_of n i ∷ [] }

-- COMPLEX MODE(RING) ENTRIES(4) LIMIT(4096), without name lists and without events
unfoldable pub deck_of : ℕ → Deck
deck_of n = record {
  star = false;
  entries = 4;
  limit = most_limit;
  lists = record { incl = no_entries Incl; excl = no_entries Excl; con = no_entries Con };
  systems = map (system_of n) (range_with_len 0 (system_count n));
  events = [];
}
