use Rattle.std.proofs.Common.{◌≡◌, ◌+◌, ◌++◌, drop}
use Rattle.grs_wire.specs.Decks.{task_count}
use Rattle.grs_report.specs.Told.{jobs_text}
use Rattle.grs_report.proofs.told.put_jobs.Given as goal

abbrev pub invariant-loop-job : goal.invariant-loop-job
invariant-loop-job l =
    (l.task + task_count (drop l.job l.jobs) ≡ task_count l.jobs)
    × (l.out ++ jobs_text l.names l.told l.ended l.system.0 l.job l.task (drop l.job l.jobs)
    ≡ l.initial.out ++ jobs_text l.names l.told l.ended l.system.0 0 0 l.jobs)
