-- Systems and jobs within their limits.
use Rattle.std.proofs.Common.{◌≡◌, ℕ, zero, suc, ◌+◌, ◌<◌, ◌≤◌, List, [], ◌∷◌, length, get_or, take, Option, Some, refl}
use Rattle.std.proofs.Common.{sym, ap, ◌∙◌, arith}
use Rattle.std.specs.Prelude.{slice_get, All}
use Rattle.std.proofs.lemmas.Option.{slice_get_read}
use Rattle.grs_base.specs.declared.resource.SysId.{SysId}
use Rattle.grs_wire.specs.declared.deck.TaskDef.{TaskDef}
use Rattle.grs_wire.specs.declared.deck.JobDef.{JobDef}
use Rattle.grs_wire.specs.declared.deck.SystemDef.{SystemDef}
use Rattle.grs_wire.specs.Decks.{task_count, IsWithin, Fits}
use Rattle.grs_deck.specs.Places.{jobs_now, job_place, task_place, task_in}

abbrev some : JobDef → Option JobDef
some x = Some x

some_is : (x y : JobDef) → some x ≡ some y → x ≡ y
some_is x y e = cc

pub all_tail : (s : SystemDef) (ss : List SystemDef) → All IsWithin (s ∷ ss) → All IsWithin ss
all_tail s ss h = λ k d lt. h (suc k) d (omega (arith, lt))

pub all_head : (s : SystemDef) (ss : List SystemDef) → All IsWithin (s ∷ ss) → IsWithin s
all_head s ss h = h 0 s (omega arith)

-- the jobs of a last system are within their limits
now_within : (systems : List SystemDef) → All IsWithin systems → task_count (jobs_now systems) ≤ 64
now_within [] h = omega arith
now_within (s ∷ []) h = (all_head s [] h).tasks
now_within (s ∷ t ∷ ss) h = now_within (t ∷ ss) (all_tail s (t ∷ ss) h)

pub task_count-now : (systems : List SystemDef) → Fits systems → task_count (jobs_now systems) ≤ 64
task_count-now systems h = now_within systems h.each

-- the tasks before a job, with its own
pub task_count-upto : (jobs : List JobDef) (j : ℕ) (held : JobDef) → slice_get jobs j ≡ Some held
    → task_count (take j jobs) + length held.tasks ≤ task_count jobs
task_count-upto [] j held h = absurd cc
task_count-upto (x ∷ jobs) zero held h = let e : x ≡ held = some_is x held h in rw e (omega arith)
task_count-upto (x ∷ jobs) (suc j) held h = let k = task_count-upto jobs j held h in omega (arith, k)

-- the task of two names, step by step
pub task_in-is :
    (id : SysId) (s : SystemDef) (job task : List ℕ) (jobs : List JobDef) (j k : ℕ) (held : JobDef)
    (tasks : List TaskDef) (n : ℕ)
    → jobs ≡ s.jobs → Some j ≡ job_place jobs job → slice_get jobs j ≡ Some held
    → tasks ≡ held.tasks → Some k ≡ task_place tasks task → n ≡ task_count (take j jobs)
    → Some (record { system = id; job = j; task = n + k }) ≡ task_in id s job task
task_in-is id s job task jobs j k held tasks n is_jobs at_job is_held is_tasks at_task before =
    let a : job_place s.jobs job ≡ Some j = ap (λ (x : List JobDef). job_place x job) (sym is_jobs) ∙ sym at_job in
    let b : slice_get s.jobs j ≡ Some held = ap (λ (x : List JobDef). slice_get x j) (sym is_jobs) ∙ is_held in
    let d : task_place held.tasks task ≡ Some k =
    ap (λ (x : List TaskDef). task_place x task) (sym is_tasks) ∙ sym at_task in
    let m : n ≡ task_count (take j s.jobs) = before ∙ ap (λ (x : List JobDef). task_count (take j x)) is_jobs in
    rw (a, b, d, m) refl

-- the job that was read stands there
pub held_there : (jobs : List JobDef) (j : ℕ) (held : JobDef) → j < length jobs → held ≡ get_or jobs j held
    → slice_get jobs j ≡ Some held
held_there jobs j held lt is = slice_get_read jobs (length jobs) j held refl lt is

-- a task's place among all tasks of its system
pub place_small : (jobs all : List JobDef) (j k : ℕ) (held : JobDef) (tasks : List TaskDef) → jobs ≡ all
    → slice_get jobs j ≡ Some held → tasks ≡ held.tasks → k < length tasks → task_count all ≤ 64
    → task_count (take j jobs) + k < 64
place_small jobs all j k held tasks is at own lt few =
    let upto = task_count-upto jobs j held at in
    let total : task_count jobs ≤ 64 = rw is few in
    let long : length tasks ≡ length held.tasks = ap length own in
    omega (arith, upto, total, long, lt)
