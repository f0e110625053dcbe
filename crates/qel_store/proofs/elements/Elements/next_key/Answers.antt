use Rattle.std.proofs.Common.{ap, sym, ◌∙◌, ◌≤◌, ◌<◌, length, subst}
use Rattle.qel_store.specs.Items.{found}
use Rattle.qel_store.specs.Stored.{Stored}
use Rattle.qel_store.proofs.NumberedLemmas.{found-vacant, room-few}
use Rattle.qel_store.proofs.elements.Elements.next_key.Goals as goal

pub returns-clause-free : goal.returns-clause-free
returns-clause-free c =
    sym (ap (λ (v : Stored). found v.items c.vacant_key.result) c.self.view_is)
    ∙ found-vacant c.self.inside.pushes c.vacant_key.result c.self.inside.slab.slots c.vacant_key.ensures.vacant

pub returns-clause-few : goal.returns-clause-few
returns-clause-few c =
    subst (λ (v : Stored). length v.items < 0xffff_ffff) c.self.view_is
    (room-few c.self.inside.pushes c.self.inside.slab
    (subst (λ (v : Stored). 1 ≤ v.room) (sym c.self.view_is) c.requires))
