use Rattle.std.proofs.Common.{◌∙◌, ap}
use Rattle.std.proofs.lemmas.Result.{IfOk-weaker}
use Rattle.std.specs.List.{flat_map}
use Rattle.contention_mgr.specs.Installs.{own_in}
use Rattle.contention_mgr.specs.Marks.{mark_in}
use Rattle.contention_mgr.proofs.LoseLemmas.{rows-are}
use Rattle.contention_mgr.proofs.entry.Entry.owners_of.Goals as goal

pub returns : goal.returns
returns c = IfOk-weaker c.owners_in.result _ _
    (λ owners are.
    are
    ∙ ap (flat_map (own_in c.args.system.0))
    (rows-are c.self.inside.next
    (mark_in c.self.inside.marks.names.entries c.self.inside.marks.marks.entries) c.self.inside.table.elements
    c.args.self.now c.in_ok-rows.rows c.as_slice.result.now c.self.view_is c.in_ok-rows.ensures c.as_slice.ensures))
    c.owners_in.ensures
