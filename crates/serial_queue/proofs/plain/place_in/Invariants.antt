use Rattle.std.proofs.Common.{◌≡◌, ◌≤◌, ◌+◌, drop, nat_eq}
use Rattle.grs_base.specs.Lists.{place_of}
use Rattle.grs_base.specs.State.{list_at}
use Rattle.serial_queue.proofs.plain.place_in.Given as goal

abbrev pub invariant-loop-x : goal.invariant-loop-x
invariant-loop-x l = record {
  few : l.place ≤ l.x-index;
  rest : l.place + place_of (list_at nat_eq (drop l.x-index l.pushed) l.queue) l.task
      ≡ place_of (list_at nat_eq l.pushed l.queue) l.task;
}
