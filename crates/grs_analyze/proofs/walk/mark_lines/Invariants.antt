use Rattle.std.proofs.Common.{◌≡◌, ◌||◌, drop, length}
use Rattle.grs_base.specs.Same.{same_task}
use Rattle.grs_base.specs.declared.resource.TaskId.{TaskId}
use Rattle.grs_analyze.specs.Numbered.{is_flagged, waits_among}
use Rattle.grs_analyze.proofs.walk.mark_lines.Given as goal

abbrev pub invariant-loop-line : goal.invariant-loop-line
invariant-loop-line l = record {
  long : length l.marks ≡ length l.tasks;
  marked : (u : TaskId)
      → (is_flagged l.tasks l.marks u || waits_among (same_task u) l.task (drop l.line-index l.lines))
      ≡ (is_flagged l.tasks l.initial.marks u || waits_among (same_task u) l.task l.lines);
}
