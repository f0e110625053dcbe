use Rattle.std.proofs.Common.{◌≡◌, ◌+◌, ◌++◌, drop}
use Rattle.grs_wire.specs.Decks.{task_count}
use Rattle.deck_tasks.specs.Tasks.{tasks_from}
use Rattle.deck_tasks.proofs.tasks.put_jobs.Given as goal

abbrev pub invariant-loop-job : goal.invariant-loop-job
invariant-loop-job l =
    (l.first + task_count (drop l.job l.jobs) ≡ task_count l.jobs)
    × (l.out ++ tasks_from l.system l.job l.first (drop l.job l.jobs) ≡ l.initial.out ++ tasks_from l.system 0 0 l.jobs)
