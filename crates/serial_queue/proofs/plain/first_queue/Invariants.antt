use Rattle.std.proofs.Common.{◌≡◌, drop}
use Rattle.std.specs.Prelude.{slice_get}
use Rattle.grs_base.specs.State.{queued_by}
use Rattle.serial_queue.proofs.plain.first_queue.Given as goal

abbrev pub invariant-loop-x : goal.invariant-loop-x
invariant-loop-x l = slice_get (queued_by (drop l.x-index l.pushed) l.task) 0 ≡ slice_get (queued_by l.pushed l.task) 0
