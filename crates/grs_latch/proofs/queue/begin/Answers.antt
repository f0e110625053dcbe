use Rattle.std.proofs.Common.{List, ◌++◌, ◌∷◌, [], refl, ap, ◌∙◌, nat_eq, ℕ}
use Rattle.grs_base.specs.State.{Held, list_at}
use Rattle.grs_base.specs.declared.resource.Elem.{Elem}
use Rattle.grs_latch.proofs.LatchLemmas.{push_here, push_others}
use Rattle.grs_latch.proofs.queue.begin.Goals as goal

pub returns-clause-list : goal.returns-clause-list
returns-clause-list g c =
    push_here (g.Q.Queues.elements c.make-queue.new.self) (g.Q.Queues.elements c.make-queue.new.self)
    (g.Q.Queues.elements c.push-2.new.self) c.make-queue.result c.args.elem refl c.push-2.ensures.elements
    ∙ ap (λ (es : List Elem). es ++ c.args.elem ∷ []) c.make-queue.ensures.empty

pub returns-clause-others : goal.returns-clause-others
returns-clause-others g c = λ q apart.
    push_others (g.Q.Queues.elements c.make-queue.new.self) (g.Q.Queues.elements c.make-queue.new.self)
    (g.Q.Queues.elements c.push-2.new.self) c.make-queue.result q c.args.elem refl c.push-2.ensures.elements apart
    ∙ ap (λ (s : Held ℕ). list_at nat_eq s q) (c.make-queue.ensures.elements ∙ c.reserve.ensures.elements)
