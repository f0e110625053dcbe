use Rattle.std.proofs.Common.{arith}
use Rattle.grs_io.proofs.Moves.{appends_more}
use Rattle.grs_io.proofs.whole.write_all.Goals as goal

pub loop-done-preserved : goal.loop-done-preserved
loop-done-preserved g c = (
  omega (arith, c.in_ok-done.ensures.within),
  appends_more _ _ _ c.loop-done.done c.in_ok-done.field-0 c.args.bytes.now c.loop-done.invariant.1
      c.in_ok-done.ensures.appended,
  cc (c.in_ok-done.ensures.kept, c.loop-done.invariant.2),
)
