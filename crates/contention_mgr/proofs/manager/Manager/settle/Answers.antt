use Rattle.std.proofs.Common.{◌∙◌, sym, ap, Option}
use Rattle.grs_wire.specs.Wants.{new_owners}
use Rattle.contention_mgr.specs.Manager.{Managed, plain, items_of}
use Rattle.contention_mgr.proofs.SettleLemmas.{if_ok}
use Rattle.contention_mgr.proofs.SlotLemmas.{managed-is}
use Rattle.contention_mgr.proofs.manager.Manager.settle.Goals as goal

pub returns-clause-owners : goal.returns-clause-owners
returns-clause-owners c =
    if_ok c.settle_at.result (λ o is.
    is ∙ ap (λ (m : Option Managed). new_owners (plain (items_of m)) c.args.req.now.task c.args.req.now.want)
    (managed-is c.self.inside.system c.self.inside.slots.items c.self.inside.entries c.in-Some.entry c.args.req.now.want
    c.args.self.now c.self.invariant.0 (sym c.wanted_entry.ensures.entry ∙ c.in-Some.is) c.self.view_is))
    c.settle_at.ensures.owners
