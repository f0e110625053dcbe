use Rattle.std.proofs.Common.{◌≡◌, ◌≤◌, ◌+◌, drop, length, nat_eq}
use Rattle.grs_base.specs.State.{list_at}
use Rattle.serial_queue.proofs.plain.len_of.Given as goal

abbrev pub invariant-loop-x : goal.invariant-loop-x
invariant-loop-x l = record {
  few : l.len ≤ l.x-index;
  rest : l.len + length (list_at nat_eq (drop l.x-index l.pushed) l.queue) ≡ length (list_at nat_eq l.pushed l.queue);
}
