use Rattle.std.proofs.Common.{◌∷◌, [], ◌++◌, ap, ◌∙◌, arith}
use Rattle.grs_gen.specs.Generated.{system_of}
use Rattle.grs_gen.proofs.Ranges.{put_last}
use Rattle.grs_gen.proofs.generated.deck_of.Goals as goal

pub loop-system-preserved : goal.loop-system-preserved
loop-system-preserved c =
    put_last (system_of c.args.n) c.loop-system.systems c.push.new.self 0 c.loop-system.system c.loop-system.system
    (omega arith) c.loop-system.invariant
    (c.in_ok-push.ensures.ok ∙ ap (λ x. c.loop-system.systems ++ x ∷ []) c.in_ok-system_of.ensures)
