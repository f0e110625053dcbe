use Rattle.std.proofs.Common.{ap, ◌∙◌, is_some, refl}
use Rattle.qel_store.specs.Items.{changed, found, made_exclusive}
use Rattle.qel_store.specs.Stored.{Stored}
use Rattle.qel_store.proofs.NumberedLemmas.{found_some, in_order-set}
use Rattle.qel_store.proofs.elements.Elements.set_exclusive.Goals as goal

pub index_mut-pushed-requires : goal.index_mut-pushed-requires
index_mut-pushed-requires g c =
    found_some c.self.inside.pushes c.args.key c.self.inside.slab.slots
    (ap (λ (v : Stored). is_some (found v.items c.args.key)) c.self.view_is ∙ c.requires)

pub returns-clause-items : goal.returns-clause-items
returns-clause-items g c =
    in_order-set c.self.inside.pushes c.args.key made_exclusive c.index_mut-pushed.result.now _ c.self.inside.slab.slots
    refl c.exclusive-pushed.ensures c.index_mut-pushed.ensures.value
    ∙ ap (λ (v : Stored). changed c.args.key made_exclusive v.items) c.self.view_is
