use Rattle.std.proofs.Common.{◌∙◌, ◌||◌, Bool, List, length, ap, sym, subst}
use Rattle.grs_base.specs.Same.{same_task}
use Rattle.grs_base.specs.declared.resource.TaskId.{TaskId}
use Rattle.grs_analyze.specs.Walk.{least}
use Rattle.grs_analyze.specs.Numbered.{AreNamedLines, is_flagged, flagged, waits_among}
use Rattle.grs_analyze.proofs.FlagLemmas.{fresh-marks}
use Rattle.grs_analyze.proofs.PassLemmas.{next-least}
use Rattle.grs_analyze.proofs.walk.next_with.Goals as goal

pub mark_lines-requires-clause-named : goal.mark_lines-requires-clause-named
mark_lines-requires-clause-named c =
    subst (λ (ts : List TaskId). AreNamedLines ts c.as_slice.result.now) (sym c.as_slice-tasks.ensures)
    (subst (AreNamedLines c.args.numbered.now.tasks) (sym c.as_slice.ensures) c.requires.numbered.named)

pub returns : goal.returns
returns c =
    let ts = c.as_slice-tasks.ensures in
    c.least_of_both.ensures.least
    ∙ ap (λ (xs : List TaskId). least (flagged xs c.least_of_both.new.flags)) ts
    ∙ next-least c.args._rows.now c.args.numbered.now c.args.task c.args.members.now c.mark_lines.new.marks
    c.least_of_both.new.flags c.requires.numbered c.requires.apart c.requires.long
    (c.mark_lines.ensures.long ∙ ap length ts) c.least_of_both.ensures.long
    (λ u.
    ap (λ (xs : List TaskId). is_flagged xs c.mark_lines.new.marks u) (sym ts)
    ∙ c.mark_lines.ensures.marked u
    ∙ ap (λ (bs : List Bool). is_flagged c.as_slice-tasks.result.now bs u
    || waits_among (same_task u) c.args.task c.as_slice.result.now) c.requires.marks
    ∙ fresh-marks c.as_slice-tasks.result.now (length c.args.numbered.now.tasks) u _
    ∙ ap (waits_among (same_task u) c.args.task) c.as_slice.ensures)
    c.least_of_both.ensures.both
