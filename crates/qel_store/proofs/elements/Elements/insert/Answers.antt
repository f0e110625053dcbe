use Rattle.std.proofs.Common.{ap, ◌∙◌, ℕ, [], ◌∷◌, ◌++◌}
use Rattle.qel_store.specs.Stored.{Stored}
use Rattle.qel_store.proofs.NumberedLemmas.{in_order-inserted}
use Rattle.qel_store.proofs.elements.Elements.insert.Goals as goal

pub returns-clause-items : goal.returns-clause-items
returns-clause-items g c =
    in_order-inserted c.self.inside.pushes c.self.inside.slab c.insert_reserved.new.self c.insert_reserved.result
    c.args.element c.self.invariant c.insert_reserved.ensures.was_vacant c.insert_reserved.ensures.updates
    ∙ ap (λ (v : Stored). v.items ++ (c.insert_reserved.result, c.args.element) ∷ []) c.self.view_is
    ∙ ap (λ (k : ℕ). c.args.self.now.items ++ (k, c.args.element) ∷ [])
    (c.insert_reserved.ensures.key ∙ ap (λ (v : Stored). v.next_key) c.self.view_is)
