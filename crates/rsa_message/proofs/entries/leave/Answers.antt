use Rattle.std.proofs.Common.{arith}
use Rattle.std.proofs.lemmas.List.Edits.{map_over_more}
use Rattle.rsa_message.specs.Message.{left_by}
use Rattle.rsa_message.proofs.entries.leave.Goals as goal

pub loop-i-preserved : goal.loop-i-preserved
loop-i-preserved c = record {
  items =
      rw c.without_system-entry.ensures
      (map_over_more (left_by c.args.system) c.args.entries.now.items c.loop-i.entries.items c.loop-i.i
      c.index_mut-entry.result.now (omega arith) c.loop-i.invariant.items c.index_mut-entry.ensures.value);
  len = c.loop-i.invariant.len;
  capacity = c.loop-i.invariant.capacity;
}
