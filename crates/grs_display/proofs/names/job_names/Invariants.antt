use Rattle.std.proofs.Common.{◌≡◌, ◌++◌, drop}
use Rattle.grs_display.specs.Names.{names_of_jobs}
use Rattle.grs_display.proofs.names.job_names.Given as goal

abbrev pub invariant-loop-job : goal.invariant-loop-job
invariant-loop-job l =
    l.names ++ names_of_jobs (drop l.job-index l.jobs) ≡ names_of_jobs l.jobs
