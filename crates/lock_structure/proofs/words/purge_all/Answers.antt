use Rattle.std.proofs.Common.{arith}
use Rattle.lock_structure.proofs.MovedLaws.{purged-more}
use Rattle.lock_structure.proofs.words.purge_all.Goals as goal

pub loop-entry-preserved : goal.loop-entry-preserved
loop-entry-preserved c =
    rw c.purged.ensures
    (purged-more c.args.target c.args.words.now.items c.loop-entry.words.items c.loop-entry.entry
    c.index_mut-slot.result.now (omega arith) c.loop-entry.invariant c.index_mut-slot.ensures.value)
