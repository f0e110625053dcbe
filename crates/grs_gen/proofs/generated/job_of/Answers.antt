use Rattle.std.proofs.Common.{◌∷◌, [], ◌+◌, ◌++◌, ap, ◌∙◌, arith}
use Rattle.grs_gen.specs.Generated.{task_of}
use Rattle.grs_gen.proofs.Ranges.{put_last}
use Rattle.grs_gen.proofs.generated.job_of.Goals as goal

pub loop-place-preserved : goal.loop-place-preserved
loop-place-preserved c =
    put_last (task_of c.args.n c.args.system) c.loop-place.tasks c.push.new.self 1 c.loop-place.place
    (c.loop-place.place + 1) (omega arith) c.loop-place.invariant
    (c.in_ok-push.ensures.ok ∙ ap (λ x. c.loop-place.tasks ++ x ∷ []) c.in_ok-task_of.ensures)
