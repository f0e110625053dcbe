use Rattle.std.proofs.Common.{ap, sym, ◌∙◌, is_some}
use Rattle.qel_store.specs.Items.{found, dropped}
use Rattle.qel_store.specs.Numbered.{in_order}
use Rattle.qel_store.specs.Stored.{Stored}
use Rattle.qel_store.proofs.NumberedLemmas.{found_some, found-below, in_order-take}
use Rattle.qel_store.proofs.elements.Elements.remove.Goals as goal

pub remove-requires : goal.remove-requires
remove-requires g c =
    found_some c.self.inside.pushes c.args.key c.self.inside.slab.slots
    (ap (λ (v : Stored). is_some (found v.items c.args.key)) c.self.view_is ∙ c.requires)

pub returns-clause-element : goal.returns-clause-element
returns-clause-element g c =
    sym (ap (λ (v : Stored). found v.items c.args.key) c.self.view_is)
    ∙ found-below c.self.inside.pushes c.args.key c.self.inside.slab.slots c.remove.result (c.self.invariant c.args.key)
    c.remove.ensures.value

pub returns-clause-items : goal.returns-clause-items
returns-clause-items g c =
    ap (in_order c.self.inside.pushes) c.remove.ensures.slots
    ∙ in_order-take c.self.inside.pushes c.args.key c.self.inside.slab.slots
    ∙ ap (λ (v : Stored). dropped c.args.key v.items) c.self.view_is
