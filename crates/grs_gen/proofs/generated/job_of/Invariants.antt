use Rattle.std.proofs.Common.{◌≡◌, map}
use Rattle.std.specs.List.{range_with_len}
use Rattle.grs_gen.specs.Generated.{task_of}
use Rattle.grs_gen.proofs.generated.job_of.Given as goal

abbrev pub invariant-loop-place : goal.invariant-loop-place
invariant-loop-place l = l.tasks ≡ map (task_of l.n l.system) (range_with_len 1 l.place)
