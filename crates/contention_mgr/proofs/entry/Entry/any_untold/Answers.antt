use Rattle.std.proofs.Common.{◌∙◌, sym, ap}
use Rattle.contention_mgr.specs.Manager.{Managed, any_untold_in}
use Rattle.contention_mgr.specs.Marks.{mark_in}
use Rattle.contention_mgr.proofs.UntoldLemmas.{any-found, any-none}
use Rattle.contention_mgr.proofs.entry.Entry.any_untold.Goals as goal

pub returns-in-Some : goal.returns-in-Some
returns-in-Some c =
    sym (any-found c.args.home.0 (mark_in c.self.inside.marks.names.entries c.self.inside.marks.marks.entries)
    c.self.inside.table.elements c.in-Some.field-0.now c.in-Some.ensures.there.0 c.self.invariant
    c.in-Some.ensures.first c.in-Some.ensures.there.1)
    ∙ ap (λ (m : Managed). any_untold_in c.args.home.0 m.items) c.self.view_is

pub returns-in-None : goal.returns-in-None
returns-in-None c =
    sym (any-none c.args.home.0 (mark_in c.self.inside.marks.names.entries c.self.inside.marks.marks.entries)
    c.self.inside.table.elements c.in-None.ensures.none)
    ∙ ap (λ (m : Managed). any_untold_in c.args.home.0 m.items) c.self.view_is
