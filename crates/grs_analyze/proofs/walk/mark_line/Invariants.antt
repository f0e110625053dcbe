use Rattle.std.proofs.Common.{◌≡◌, ◌||◌, ◌++◌, drop, take, length}
use Rattle.grs_base.specs.Same.{same_task}
use Rattle.grs_base.specs.declared.resource.TaskId.{TaskId}
use Rattle.grs_analyze.specs.Depends.{is_kept_by}
use Rattle.grs_analyze.specs.Numbered.{elems_of, is_flagged}
use Rattle.grs_analyze.proofs.walk.mark_line.Given as goal

abbrev pub invariant-loop-place : goal.invariant-loop-place
invariant-loop-place l = record {
  long : length l.marks ≡ length l.tasks;
  marked : (u : TaskId)
      → (is_flagged l.tasks l.marks u
      || is_kept_by (same_task u) l.task (elems_of l.front ++ elems_of (take l.place l.waiters))
      (elems_of (drop l.place l.waiters)))
      ≡ (is_flagged l.tasks l.initial.marks u
      || is_kept_by (same_task u) l.task (elems_of l.front) (elems_of l.waiters));
}
