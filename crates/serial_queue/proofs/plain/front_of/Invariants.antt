use Rattle.std.proofs.Common.{◌≡◌, ◌≤◌, ◌+◌, drop, nat_eq}
use Rattle.grs_base.specs.Lists.{shared_front}
use Rattle.grs_base.specs.State.{list_at}
use Rattle.serial_queue.proofs.plain.front_of.Given as goal

abbrev pub invariant-loop-x : goal.invariant-loop-x
invariant-loop-x l = record {
  few : l.front ≤ l.x-index;
  rest : l.front + shared_front (list_at nat_eq (drop l.x-index l.pushed) l.queue)
      ≡ shared_front (list_at nat_eq l.pushed l.queue);
}
