use Rattle.std.proofs.Common.{◌≡◌, map, length, take}
use Rattle.grs_node.proofs.scripts.sizes_of_jobs.Given as goal

abbrev pub invariant-loop-job : goal.invariant-loop-job
invariant-loop-job l = l.sizes.items ≡ map (λ j. length j.tasks) (take l.job-index l.jobs)
