use Rattle.std.proofs.Common.{◌≡◌, ◌||◌, drop, length}
use Rattle.grs_base.specs.declared.resource.TaskId.{TaskId}
use Rattle.grs_analyze.specs.Numbered.{elems_of, is_flagged, is_kept_behind}
use Rattle.grs_analyze.proofs.greatest.mark_line.Given as goal

abbrev pub invariant-loop-spot : goal.invariant-loop-spot
invariant-loop-spot l = record {
  long : length l.marks ≡ length l.tasks;
  marked : (t : TaskId)
      → (is_flagged l.tasks l.marks t
      || is_kept_behind (is_flagged l.tasks l.members) t l.front (elems_of (drop l.spot-index l.line.waiters)))
      ≡ (is_flagged l.tasks l.initial.marks t
      || is_kept_behind (is_flagged l.tasks l.members) t l.initial.front (elems_of l.line.waiters));
}
