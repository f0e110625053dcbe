use Rattle.std.proofs.Common.{◌∙◌, ap, length}
use Rattle.std.specs.Prelude.{◌==◌}
use Rattle.contention_mgr.specs.Manager.{Managed}
use Rattle.contention_mgr.specs.Marks.{mark_in}
use Rattle.contention_mgr.proofs.UntoldLemmas.{empty-tells}
use Rattle.contention_mgr.proofs.entry.Entry.is_empty.Goals as goal

pub returns : goal.returns
returns c =
    empty-tells c.is_empty.result (mark_in c.self.inside.marks.names.entries c.self.inside.marks.marks.entries)
    c.self.inside.table.elements c.self.invariant c.is_empty.ensures.none c.is_empty.ensures.some
    ∙ ap (λ (m : Managed). length m.items == 0) c.self.view_is
