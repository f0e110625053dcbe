use Rattle.std.proofs.Common.{map, ap, ◌∙◌}
use Rattle.grs_report.proofs.ShelfLaws.{lines_under-grown}
use Rattle.grs_report.proofs.shelves.Shelves.reach.Goals as goal

pub grow-preserved : goal.grow-preserved
grow-preserved c = λ n.
    rw c.in_ok-put_last.ensures
    (lines_under-grown _ n _ _ (ap (map (λ t. t.now)) c.new.ensures.items) ∙ c.grow.invariant n)
