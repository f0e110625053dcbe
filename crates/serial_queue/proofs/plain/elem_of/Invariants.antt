use Rattle.std.proofs.Common.{◌≡◌, ◌<◌, drop, length, nat_eq}
use Rattle.std.specs.Prelude.{slice_get}
use Rattle.grs_base.specs.State.{list_at}
use Rattle.serial_queue.proofs.plain.elem_of.Given as goal

abbrev pub invariant-loop-x : goal.invariant-loop-x
invariant-loop-x l = record {
  within : l.left < length (list_at nat_eq (drop l.x-index l.pushed) l.queue);
  rest : slice_get (list_at nat_eq (drop l.x-index l.pushed) l.queue) l.left
      ≡ slice_get (list_at nat_eq l.pushed l.queue) l.place;
}
