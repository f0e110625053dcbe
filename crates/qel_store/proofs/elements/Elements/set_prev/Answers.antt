use Rattle.std.proofs.Common.{ap, ◌∙◌, is_some, refl}
use Rattle.qel_store.specs.Items.{changed, found}
use Rattle.qel_store.specs.Rings.{with_prev}
use Rattle.qel_store.specs.Stored.{Stored}
use Rattle.qel_store.proofs.NumberedLemmas.{found_some, in_order-set, room_of-set}
use Rattle.qel_store.proofs.elements.Elements.set_prev.Goals as goal

pub index_mut-pushed-requires : goal.index_mut-pushed-requires
index_mut-pushed-requires g c =
    found_some c.self.inside.pushes c.args.key c.self.inside.slab.slots
    (ap (λ (v : Stored). is_some (found v.items c.args.key)) c.self.view_is ∙ c.requires)

pub returns-clause-items : goal.returns-clause-items
returns-clause-items g c =
    in_order-set c.self.inside.pushes c.args.key (with_prev c.args.side c.args.to) c.index_mut-pushed.result.now _
    c.self.inside.slab.slots refl c.with_prev-pushed.ensures c.index_mut-pushed.ensures.value
    ∙ ap (λ (v : Stored). changed c.args.key (with_prev c.args.side c.args.to) v.items) c.self.view_is

pub returns-clause-room : goal.returns-clause-room
returns-clause-room g c =
    room_of-set c.self.inside.pushes c.self.inside.slab c.args.key c.index_mut-pushed.result.now _
    c.index_mut-pushed.ensures.value
    ∙ ap (λ (v : Stored). v.room) c.self.view_is
