use Rattle.std.proofs.Common.{◌∙◌, ap, cond}
use Rattle.grs_base.specs.Same.{same_task}
use Rattle.qel_store.specs.declared.rings.Ring.{Ring}
use Rattle.qel_store.specs.Rings.{ring_with}
use Rattle.qel_store.specs.Tasks.{ring_of}
use Rattle.qel_store.proofs.tasks.add_to.Goals as goal

pub returns-clause-rings : goal.returns-clause-rings
returns-clause-rings c = λ t.
    c.put.ensures t
    ∙ ap (λ (r : Ring). cond (same_task c.args.task t) r (ring_of c.args.circles.now.entries t))
    (c.with-longer.ensures ∙ ap (λ (r : Ring). ring_with r c.args.key) c.hashed-was.ensures)
