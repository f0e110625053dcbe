use Rattle.std.proofs.Common.{ap, sym, ◌∙◌, is_some}
use Rattle.qel_store.specs.Items.{found}
use Rattle.qel_store.specs.Stored.{Stored}
use Rattle.qel_store.proofs.NumberedLemmas.{found_some, found-below}
use Rattle.qel_store.proofs.elements.Elements.get.Goals as goal

pub index-requires : goal.index-requires
index-requires g c =
    found_some c.self.inside.pushes c.args.key c.self.inside.slab.slots
    (ap (λ (v : Stored). is_some (found v.items c.args.key)) c.self.view_is ∙ c.requires)

pub returns-clause-element : goal.returns-clause-element
returns-clause-element g c =
    sym (ap (λ (v : Stored). found v.items c.args.key) c.self.view_is)
    ∙ found-below c.self.inside.pushes c.args.key c.self.inside.slab.slots c.index.result.now
    (c.self.invariant c.args.key) c.index.ensures
