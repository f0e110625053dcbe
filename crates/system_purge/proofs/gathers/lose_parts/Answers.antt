use Rattle.std.proofs.Common.{arith}
use Rattle.system_purge.proofs.GatheredParts.{lost-more}
use Rattle.system_purge.proofs.gathers.lose_parts.Goals as goal

pub loop-i-preserved : goal.loop-i-preserved
loop-i-preserved c =
    lost-more c.args.system c.args.slots.now.items c.loop-i.slots.items c.loop-i.i c.index_mut-slot.result.now
    c.lose_part.new.slot (omega arith) c.loop-i.invariant c.index_mut-slot.ensures.value c.lose_part.ensures
