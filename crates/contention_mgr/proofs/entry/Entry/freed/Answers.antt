use Rattle.std.proofs.Common.{◌∙◌}
use Rattle.std.proofs.lemmas.Result.{IfOk-weaker}
use Rattle.contention_mgr.specs.Marks.{mark_in}
use Rattle.contention_mgr.proofs.LoseLemmas.{freed-is}
use Rattle.contention_mgr.proofs.entry.Entry.freed.Goals as goal

pub returns : goal.returns
returns c = IfOk-weaker c.freed_rows.result _ _
    (λ freed are.
    are
    ∙ freed-is c.args.target.0 c.self.inside.next
    (mark_in c.self.inside.marks.names.entries c.self.inside.marks.marks.entries) c.self.inside.table.elements
    c.args.self.now c.in_ok-rows.rows c.as_slice.result.now c.self.view_is c.in_ok-rows.ensures c.as_slice.ensures)
    c.freed_rows.ensures
