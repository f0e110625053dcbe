use Rattle.std.proofs.Common.{map, ap, ◌∙◌, Bor}
use Rattle.grs_wire.specs.declared.told.Told.{Told}
use Rattle.grs_report.specs.Told.{task_at, told_to}
use Rattle.grs_report.proofs.ShelfLaws.{told_to-told_under}
use Rattle.grs_report.proofs.shelves.SystemLines.under.Goals as goal

pub returns : goal.returns
returns c = λ system job.
    ap (told_to (task_at system job c.args.number)) (c.under.ensures ∙ c.self.invariant c.args.number)
    ∙ told_to-told_under system job c.args.number (map (λ (t : Bor Told). t.now) c.self.inside.told.now)
    ∙ ap (told_to (task_at system job c.args.number)) c.self.view_is
