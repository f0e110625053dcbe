use Rattle.std.proofs.Common.{arith}
use Rattle.contention_mgr.proofs.LoseLemmas.{lost-more}
use Rattle.contention_mgr.proofs.manager.lose_all.Goals as goal

pub loop-i-preserved : goal.loop-i-preserved
loop-i-preserved c =
    lost-more c.args.system.0 c.args.target.0 c.args.slots.now.items c.loop-i.slots.items c.loop-i.i
    c.index_mut-slot.result.now c.lose_at.new.slot (omega arith) c.loop-i.invariant c.index_mut-slot.ensures.value
    c.lose_at.ensures
