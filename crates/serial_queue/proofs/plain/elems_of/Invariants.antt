use Rattle.std.proofs.Common.{◌≡◌, ◌++◌, drop, nat_eq}
use Rattle.grs_base.specs.State.{list_at}
use Rattle.serial_queue.proofs.plain.elems_of.Given as goal

abbrev pub invariant-loop-x : goal.invariant-loop-x
invariant-loop-x l = l.elems ++ list_at nat_eq (drop l.x-index l.pushed) l.queue ≡ list_at nat_eq l.pushed l.queue
