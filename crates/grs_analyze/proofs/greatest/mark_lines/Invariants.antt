use Rattle.std.proofs.Common.{◌≡◌, ◌||◌, drop, length}
use Rattle.grs_base.specs.declared.resource.TaskId.{TaskId}
use Rattle.grs_analyze.specs.Numbered.{is_flagged, waits_among}
use Rattle.grs_analyze.proofs.greatest.mark_lines.Given as goal

abbrev pub invariant-loop-line : goal.invariant-loop-line
invariant-loop-line l = record {
  long : length l.marks ≡ length l.tasks;
  marked : (t : TaskId)
      → (is_flagged l.tasks l.marks t || waits_among (is_flagged l.tasks l.members) t (drop l.line-index l.lines))
      ≡ (is_flagged l.tasks l.initial.marks t || waits_among (is_flagged l.tasks l.members) t l.lines);
}
