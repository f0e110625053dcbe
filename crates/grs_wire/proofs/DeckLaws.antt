-- Each part of a deck is within the limits of the deck.
use Rattle.std.proofs.Common.{◌≡◌, ◌<◌, ◌≤◌, ◌≢◌, ℕ, zero, suc, true, List, [], ◌∷◌, length, get_or, Some, subst, arith}
use Rattle.std.proofs.Common.{length-append}
use Rattle.std.specs.Prelude.{slice_get, All}
use Rattle.std.specs.List.{flat_map}
use Rattle.std.proofs.lemmas.Option.{slice_get_within, get_or_from_slice_get}
use Rattle.grs_base.specs.Limits.{most_lines, most_tasks, is_entries}
use Rattle.grs_wire.specs.declared.deck.TaskDef.{TaskDef}
use Rattle.grs_wire.specs.declared.deck.JobDef.{JobDef}
use Rattle.grs_wire.specs.declared.deck.SystemDef.{SystemDef}
use Rattle.grs_wire.specs.declared.deck.Deck.{Deck}
use Rattle.grs_wire.specs.Decks.{task_count, IsWithin, IsBounded, IsDeck}

-- ---- what a part has is not more than the whole
length-part : {X A : Type 0} (f : X → List A) (xs : List X) (k : ℕ) (d : X) → k < length xs
    → length (f (get_or xs k d)) ≤ length (flat_map f xs)
length-part f [] k d h = absurd (omega (arith, h))
length-part f (x ∷ xs) zero d h = omega (arith, length-append (f x) (flat_map f xs))
length-part f (x ∷ xs) (suc k) d h =
    omega (arith, length-append (f x) (flat_map f xs), length-part f xs k d (omega (arith, h)))

count-part : (js : List JobDef) (k : ℕ) (d : JobDef) → k < length js → length (get_or js k d).tasks ≤ task_count js
count-part [] k d h = absurd (omega (arith, h))
count-part (j ∷ js) zero d h = omega arith
count-part (j ∷ js) (suc k) d h = omega (arith, count-part js k d (omega (arith, h)))

-- ---- the tasks of a system of a deck
-- the tasks of each of its jobs are as many as a system may have
pub tasks_few : (d : Deck) (n : ℕ) (s : SystemDef) → IsBounded d → slice_get d.systems n ≡ Some s
    → All (λ (j : JobDef). length j.tasks ≤ most_tasks) s.jobs
tasks_few d n s h at k j lt =
    let w : IsWithin (get_or d.systems n s) = h.fits.each n s (slice_get_within d.systems n s at) in
    let own : IsWithin s = subst IsWithin (get_or_from_slice_get d.systems n s s at) w in
    omega (arith, count-part s.jobs k j lt, own.tasks)

-- the lines of each of its tasks are as many as a deck may have
pub lines_few : (d : Deck) (n : ℕ) (s : SystemDef) → IsBounded d → slice_get d.systems n ≡ Some s
    → All (λ (j : JobDef). All (λ (t : TaskDef). length t.lines ≤ most_lines) j.tasks) s.jobs
lines_few d n s h at k j in_jobs i t in_tasks =
    let of_task = λ (t : TaskDef). t.lines in
    let of_job = λ (j : JobDef). flat_map of_task j.tasks in
    let of_system = λ (s : SystemDef). flat_map of_job s.jobs in
    let one = length-part of_task (get_or s.jobs k j).tasks i t in_tasks in
    let job = length-part of_job s.jobs k j in_jobs in
    let whole = length-part of_system d.systems n s (slice_get_within d.systems n s at) in
    let system : length (of_system s) ≤ length (flat_map of_system d.systems) =
    subst (λ x. length (of_system x) ≤ length (flat_map of_system d.systems)) (get_or_from_slice_get d.systems n s s at)
    whole in
    omega (arith, one, job, system, h.few)

-- ---- the lock entries
pub entries_some : (n : ℕ) → is_entries n ≡ true → 0 < n
entries_some zero h = absurd (cc)
entries_some (suc n) h = omega arith

-- a deck has one at least
pub some_entry : (d : Deck) → IsBounded d → d.entries ≢ 0
some_entry d h = let k = entries_some d.entries h.entries in λ z. omega (arith, z, k)

-- ---- a deck that is read may be run
pub bounded : (d : Deck) → IsDeck d → IsBounded d
bounded d h = record {
  some = h.some;
  fits = h.fits;
  orders = h.orders;
  few = h.lines.few;
  displays = h.lines.displays;
  entries = h.entries;
  limit = h.limit;
  lists = h.lists;
}

pub ruleset parts = (tasks_few, lines_few, some_entry)

pub ruleset bounds = (bounded)
