use Rattle.std.proofs.Common.{◌∙◌, ap, List}
use Rattle.std.proofs.Common.{false}
use Rattle.contention_mgr.specs.Manager.{Ranked, Managed, with_mark}
use Rattle.contention_mgr.specs.Marks.{mark_in}
use Rattle.contention_mgr.proofs.ItemLemmas.{ranked-marked, all_marked-are}
use Rattle.contention_mgr.proofs.entry.Entry.mark_told.Goals as goal

pub returns : goal.returns
returns c =
    ap (λ (l : List Ranked). record { next = c.self.inside.next; items = l }) (ranked-marked
    (mark_in c.self.inside.marks.names.entries c.self.inside.marks.marks.entries)
    (mark_in c.set.new.self.names.entries c.set.new.self.marks.entries) c.args.res.now c.args.task false c.set.ensures
    c.self.inside.table.elements
    (all_marked-are (mark_in c.self.inside.marks.names.entries c.self.inside.marks.marks.entries)
    c.self.inside.table.elements c.self.invariant))
    ∙ ap (λ (m : Managed). record { next = m.next; items = with_mark false c.args.res.now c.args.task m.items })
    c.self.view_is
