use Rattle.grs_report.proofs.ShelfLaws.{lines_under-on_ok}
use Rattle.grs_report.proofs.shelves.Shelves.put.Goals as goal

pub returns : goal.returns
returns c =
    let reached = rw (← c.self.view_is) at c.in_ok-reach.ensures.reached in
    let kept = rw (← c.self.view_is) at c.in_ok-reach.ensures.kept in
    lines_under-on_ok c.put_line.result _ c.self.inside.lists.items c.args.self.now c.args.number _ _ c.args.line.now
    reached c.index_mut.ensures.value kept c.put_line.ensures
