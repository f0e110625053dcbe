use Rattle.std.proofs.Common.{◌≡◌, ◌∙◌, Some, ap, subst, sym}
use Rattle.std.proofs.Common.{nat_eq}
use Rattle.grs_base.specs.State.{without}
use Rattle.grs_base.proofs.SameLaws.{same_task-itself}
use Rattle.qel_store.specs.declared.elements.Element.{Element}
use Rattle.qel_store.specs.declared.elements.Side.TheVariants.{Task}
use Rattle.qel_store.specs.Items.{Items, has_key, held_of}
use Rattle.qel_store.specs.Rings.{has_neighbours, tied}
use Rattle.qel_store.specs.Linked.{QueuesLinked, AllLinked}
use Rattle.qel_store.proofs.TieLemmas.{unqueued-absent, task_neighbours-taken}
use Rattle.qel_store.proofs.LinkedLemmas.{QueuesLinked-tied, AllLinked-taken}
use Rattle.qel_store.proofs.LinkedLemmas.{held-taken}
use Rattle.qel_store.proofs.TakeLemmas.{task_known}
use Rattle.qel_store.proofs.linked.take_key.Goals as goal

same_element : (a b : Element) → Some a ≡ Some b → a ≡ b
same_element a b i = cc

pub tie-requires-clause-absent : goal.tie-requires-clause-absent
tie-requires-clause-absent g c =
    ap (λ (l : Items). has_key l c.args.key) c.unqueue-element.ensures.items
    ∙ unqueued-absent c.args.elements.now.items c.args.key c.unqueue-element.result

pub tie-requires-clause-neighbours : goal.tie-requires-clause-neighbours
tie-requires-clause-neighbours g c =
    ap (λ (l : Items). has_neighbours l c.args.key c.unqueue-element.result.of_task) c.unqueue-element.ensures.items
    ∙ task_neighbours-taken c.args.elements.now.items c.args.tasks.now.circles.entries c.args.key
    c.unqueue-element.result c.requires.queues.keys c.requires.tasks c.unqueue-element.ensures.element

pub take_from_task-requires : goal.take_from_task-requires
take_from_task-requires g c =
    task_known c.args.elements.now.items c.args.tasks.now.circles.entries c.args.key c.unqueue-element.result
    c.requires.queues.keys c.requires.tasks c.unqueue-element.ensures.element
    (same_task-itself c.unqueue-element.result.elem.task)

pub returns-clause-elem : goal.returns-clause-elem
returns-clause-elem g c = λ e f.
    ap (λ (x : Element). x.elem) (same_element c.unqueue-element.result e (sym c.unqueue-element.ensures.element ∙ f))

pub returns-clause-held : goal.returns-clause-held
returns-clause-held g c = λ e f.
    let xs = c.args.elements.now.items in
    let u = c.unqueue-element.result in
    subst (λ (x : Element). held_of c.tie.new.elements.items ≡ without nat_eq (held_of xs) x.queue x.elem.task)
    (same_element u e (sym c.unqueue-element.ensures.element ∙ f))
    (ap held_of (c.tie.ensures.items ∙ ap (tied Task u.of_task u.of_task) c.unqueue-element.ensures.items)
    ∙ held-taken c.args.key u xs c.args.heads.now.items c.requires.queues c.unqueue-element.ensures.element)

pub returns-clause-queues : goal.returns-clause-queues
returns-clause-queues g c =
    let u = c.unqueue-element.result in
    subst (λ (l : Items). QueuesLinked l c.unqueue-element.new.heads.items) (sym c.tie.ensures.items)
    (QueuesLinked-tied u.of_task u.of_task c.unqueue-element.new.elements.items c.unqueue-element.new.heads.items
    c.unqueue-element.ensures.queues)

pub returns-clause-tasks : goal.returns-clause-tasks
returns-clause-tasks g c =
    let xs = c.args.elements.now.items in
    let ts = c.args.tasks.now.circles.entries in
    let u = c.unqueue-element.result in
    subst (λ (l : Items). AllLinked l c.take_from_task.new.tasks.circles.entries)
    (sym (c.tie.ensures.items ∙ ap (tied Task u.of_task u.of_task) c.unqueue-element.ensures.items))
    (AllLinked-taken xs ts c.take_from_task.new.tasks.circles.entries c.args.key u c.requires.queues.keys
    c.requires.tasks c.unqueue-element.ensures.element
    c.take_from_task.ensures)
