use Rattle.std.proofs.Common.{◌∙◌, sym, ap, Option, Some}
use Rattle.std.specs.Prelude.{slice_set, option_map}
use Rattle.grs_wire.specs.Wants.{new_owners}
use Rattle.contention_mgr.specs.Manager.{Managed, plain, settled, items_of}
use Rattle.contention_mgr.proofs.SettleLemmas.{if_ok, on_ok}
use Rattle.contention_mgr.proofs.SlotLemmas.{kept-got}
use Rattle.contention_mgr.proofs.manager.settle_at.Goals as goal

pub returns-clause-owners : goal.returns-clause-owners
returns-clause-owners c =
    if_ok c.settle.result (λ o is.
    is
    ∙ ap (λ (m : Option Managed). new_owners (plain (items_of m)) c.args.req.now.task c.args.req.now.want)
    (sym c.in-Some.is
    ∙ sym (kept-got c.args.slots.now.items c.args.entry c.index_mut.result.now c.requires c.index_mut.ensures.value)))
    c.settle.ensures.owners

pub returns-clause-after : goal.returns-clause-after
returns-clause-after c =
    on_ok c.settle.result (λ after.
    ap (λ (o : Option Managed). slice_set c.args.slots.now.items c.args.entry o) (ap (λ (m : Managed). Some m) after
    ∙ ap (option_map (λ m. settled c.args.system.0 m c.args.req.now.task c.args.req.now.want))
    (sym c.in-Some.is
    ∙ sym (kept-got c.args.slots.now.items c.args.entry c.index_mut.result.now c.requires c.index_mut.ensures.value))))
    c.settle.ensures.after
