use Rattle.std.proofs.Common.{◌≡◌, ◌++◌, drop}
use Rattle.grs_base.specs.Behind.{shared_tasks}
use Rattle.serial_queue.proofs.behind.shared_in.Given as goal

abbrev pub invariant-loop-elem : goal.invariant-loop-elem
invariant-loop-elem l = l.tasks ++ shared_tasks (drop l.elem-index l.elems) ≡ shared_tasks l.elems
