use Rattle.std.proofs.Common.{◌∙◌, ap, cond}
use Rattle.grs_base.specs.Same.{same_task}
use Rattle.qel_store.specs.declared.rings.Ring.{Ring}
use Rattle.qel_store.specs.Rings.{ring_with}
use Rattle.qel_store.specs.Tasks.{ring_of}
use Rattle.qel_store.proofs.TaskLemmas.{ring_of-at, at_value}
use Rattle.qel_store.proofs.tasks.add_at.Goals as goal

pub returns-clause-rings : goal.returns-clause-rings
returns-clause-rings c = λ t.
    let rs = c.args.circles.now.entries in
    let was =
    at_value rs c.args.place c.args._task (ring_of rs c.args._task) c.in-Some.ring.now c.requires.at
    c.in-Some.ensures.value in
    ring_of-at c.args.circles.now c.args.place c.args._task c.with.result c.get_index_mut.ensures.unique c.requires.at t
    ∙ ap (λ (r : Ring). cond (same_task c.args._task t) r (ring_of rs t))
    (c.with.ensures ∙ ap (λ (r : Ring). ring_with r c.args.key) was)
