-- The lines of a task, job by job.
use Rattle.std.proofs.Common.{◌≡◌, ◌<◌, ◌≤◌, ◌+◌, ◌-◌, ℕ, zero, suc, cond, List, [], ◌∷◌, length, drop, get_or}
use Rattle.std.proofs.Common.{Some, None, refl, ap, sym, ◌∙◌, subst, arith}
use Rattle.std.specs.Prelude.{◌==◌, slice_get}
use Rattle.grs_legal.specs.Asks.{scripts_in, scripts_from, lines_at}
use Rattle.grs_wire.specs.declared.deck.JobDef.{JobDef}
use Rattle.grs_wire.specs.declared.deck.TaskDef.{TaskDef}
use Rattle.grs_track.proofs.WalkLaws.{get-front, get-back}

-- a job has a script for each of its tasks
scripts-length : (job : ℕ) (ts : List TaskDef) → length (scripts_in job ts) ≡ length ts
scripts-length job [] = refl
scripts-length job (t ∷ ts) = ap suc (scripts-length job ts)

pub script-at : (job place k : ℕ) (ts : List TaskDef) (t : TaskDef) → slice_get ts k ≡ Some t
    → lines_at job (slice_get (scripts_in place ts) k) ≡ cond (place == job) (Some t.lines) None
script-at job place k [] t h = absurd (cc)
script-at job place zero (x ∷ ts) t h =
    let same : x ≡ t = cc in ap (λ (y : TaskDef). cond (place == job) (Some y.lines) None) same
script-at job place (suc k) (x ∷ ts) t h = script-at job place k ts t h

pub script-none : (job place k : ℕ) (ts : List TaskDef) → slice_get ts k ≡ None
    → lines_at job (slice_get (scripts_in place ts) k) ≡ None
script-none job place k [] h = refl
script-none job place zero (x ∷ ts) h = absurd (cc)
script-none job place (suc k) (x ∷ ts) h = script-none job place k ts h

drop-first : (js : List JobDef) (i : ℕ) (j : JobDef) → i < length js → j ≡ get_or js i j
    → drop i js ≡ j ∷ drop (suc i) js
drop-first [] i j h e = absurd (omega (arith, h))
drop-first (x ∷ js) zero j h e = ap (λ y. y ∷ js) (sym e)
drop-first (x ∷ js) (suc i) j h e = drop-first js i j (omega (arith, h)) e

-- the walk ends within a job, or goes on behind it
pub walk-within : (job i k : ℕ) (js : List JobDef) (j : JobDef) → i < length js → j ≡ get_or js i j → k < length j.tasks
    → lines_at job (slice_get (scripts_from i (drop i js)) k) ≡ lines_at job (slice_get (scripts_in i j.tasks) k)
walk-within job i k js j h e w =
    ap (λ xs. lines_at job (slice_get (scripts_from i xs) k)) (drop-first js i j h e)
    ∙ ap (lines_at job) (get-front (scripts_in i j.tasks) (scripts_from (suc i) (drop (suc i) js)) k
    (subst (λ n. k < n) (sym (scripts-length i j.tasks)) w))

pub walk-behind : (job i k n : ℕ) (js : List JobDef) (j : JobDef) → i < length js → j ≡ get_or js i j
    → n ≡ length j.tasks → n ≤ k
    → lines_at job (slice_get (scripts_from i (drop i js)) k)
    ≡ lines_at job (slice_get (scripts_from (i + 1) (drop (i + 1) js)) (k - n))
walk-behind job i k n js j h e c b =
    let count : length (scripts_in i j.tasks) ≡ n = scripts-length i j.tasks ∙ sym c in
    let past : length (scripts_in i j.tasks) ≤ k = omega (arith, count, b) in
    let next : suc i ≡ i + 1 = omega arith in
    ap (λ xs. lines_at job (slice_get (scripts_from i xs) k)) (drop-first js i j h e)
    ∙ (ap (lines_at job) (get-back (scripts_in i j.tasks) (scripts_from (suc i) (drop (suc i) js)) k past)
    ∙ (ap (λ m. lines_at job (slice_get (scripts_from m (drop m js)) (k - length (scripts_in i j.tasks)))) next
    ∙ ap (λ m. lines_at job (slice_get (scripts_from (i + 1) (drop (i + 1) js)) (k - m))) count))
