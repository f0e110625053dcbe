use Rattle.std.proofs.Common.{◌≡◌, ◌||◌, drop, length}
use Rattle.grs_base.specs.Same.{same_task}
use Rattle.grs_base.specs.declared.resource.TaskId.{TaskId}
use Rattle.grs_analyze.specs.Depends.{blocks}
use Rattle.grs_analyze.specs.Numbered.{elems_of, is_flagged}
use Rattle.grs_analyze.proofs.walk.mark_front.Given as goal

abbrev pub invariant-loop-spot : goal.invariant-loop-spot
invariant-loop-spot l = record {
  long : length l.marks ≡ length l.tasks;
  marked : (u : TaskId)
      → (is_flagged l.tasks l.marks u || blocks (same_task u) l.ctl (elems_of (drop l.spot-index l.spots)))
      ≡ (is_flagged l.tasks l.initial.marks u || blocks (same_task u) l.ctl (elems_of l.spots));
}
