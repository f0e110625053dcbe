use Rattle.std.proofs.Common.{◌∙◌, ◌||◌, Bool, List, length, ap, sym, subst}
use Rattle.grs_base.specs.declared.resource.TaskId.{TaskId}
use Rattle.grs_analyze.specs.Numbered.{AreNamedLines, is_flagged, waits_among}
use Rattle.grs_analyze.proofs.FlagLemmas.{fresh-marks}
use Rattle.grs_analyze.proofs.PassLemmas.{pass-supported}
use Rattle.grs_analyze.proofs.greatest.pass_with.Goals as goal

pub mark_lines-requires-clause-named : goal.mark_lines-requires-clause-named
mark_lines-requires-clause-named c =
    subst (λ (ts : List TaskId). AreNamedLines ts c.as_slice.result.now) (sym c.as_slice-tasks.ensures)
    (subst (AreNamedLines c.args.numbered.now.tasks) (sym c.as_slice.ensures) c.requires.numbered.named)

pub returns-clause-left : goal.returns-clause-left
returns-clause-left c =
    let ts = c.as_slice-tasks.ensures in
    pass-supported c.args._rows.now c.args.numbered.now c.args.members.now c.mark_lines.new.marks c.meet.new.flags
    c.requires.numbered c.requires.apart c.requires.long (c.mark_lines.ensures.long ∙ ap length ts) c.meet.ensures.long
    (λ t.
    ap (λ (xs : List TaskId). is_flagged xs c.mark_lines.new.marks t) (sym ts)
    ∙ c.mark_lines.ensures.marked t
    ∙ ap (λ (bs : List Bool). is_flagged c.as_slice-tasks.result.now bs t
    || waits_among (is_flagged c.as_slice-tasks.result.now c.args.members.now) t c.as_slice.result.now)
    c.requires.marks
    ∙ fresh-marks c.as_slice-tasks.result.now (length c.args.numbered.now.tasks) t _
    ∙ ap (λ (xs : List TaskId). waits_among (is_flagged xs c.args.members.now) t c.as_slice.result.now) ts
    ∙ ap (waits_among (is_flagged c.args.numbered.now.tasks c.args.members.now) t) c.as_slice.ensures)
    c.meet.ensures.both
