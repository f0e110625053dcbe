use Rattle.std.proofs.Common.{◌∷◌, [], ◌+◌, arith}
use Rattle.grs_gen.specs.Generated.{enq_line, deq_line}
use Rattle.grs_gen.proofs.Ranges.{joined_last}
use Rattle.grs_gen.proofs.generated.lines_of.Goals as goal

pub loop-place-preserved : goal.loop-place-preserved
loop-place-preserved c =
    joined_last (λ j. enq_line c.args.system c.args.task j ∷ deq_line c.args.task j ∷ []) c.loop-place.lines
    c.put_lines.new.lines 1 c.loop-place.place (c.loop-place.place + 1)
    (omega arith) c.loop-place.invariant c.in_ok-put_lines.ensures
