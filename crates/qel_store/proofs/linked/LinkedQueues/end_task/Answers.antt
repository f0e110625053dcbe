use Rattle.std.proofs.Common.{◌<◌, ◌∙◌, ap, arith, cond, sym}
use Rattle.grs_base.specs.Same.{same_task}
use Rattle.qel_store.specs.declared.elements.Side.TheVariants.{Task}
use Rattle.qel_store.specs.declared.rings.Ring.{Ring}
use Rattle.qel_store.specs.Items.{members, is_of}
use Rattle.qel_store.specs.Tasks.{ring_of}
use Rattle.qel_store.proofs.EndLemmas.{ends-cleared, ends-held}
use Rattle.qel_store.proofs.HeadLemmas.{free_same}
use Rattle.qel_store.proofs.TakeLemmas.{count_of, none_of, task_circle}
use Rattle.qel_store.proofs.TaskLemmas.{ring_known}
use Rattle.qel_store.proofs.WalkLemmas.{circle-length}
use Rattle.qel_store.proofs.linked.LinkedQueues.end_task.Goals as goal

pub returns-then-ring-eq0-clause-count : goal.returns-then-ring-eq0-clause-count
returns-then-ring-eq0-clause-count g c =
    let xs = c.args.self.now.elements.items in
    let circle =
    task_circle xs c.args.self.now.tasks.circles.entries c.args.task c.task_ring-ring.result c.args.self.now.queues.keys
    c.args.self.now.linked c.task_ring-ring.ensures in
    sym (count_of xs c.args.task
    ∙ sym (circle-length Task (is_of c.args.task) xs c.task_ring-ring.result circle)
    ∙ c.if-ring-eq0.true)

pub returns-then-ring-eq0-clause-elements : goal.returns-then-ring-eq0-clause-elements
returns-then-ring-eq0-clause-elements g c =
    let xs = c.args.self.now.elements.items in
    let circle =
    task_circle xs c.args.self.now.tasks.circles.entries c.args.task c.task_ring-ring.result c.args.self.now.queues.keys
    c.args.self.now.linked c.task_ring-ring.ensures in
    sym (ends-held c.args.task xs (none_of (members (is_of c.args.task) xs)
    (sym (circle-length Task (is_of c.args.task) xs c.task_ring-ring.result circle) ∙ c.if-ring-eq0.true)))

pub change_task_ring-requires : goal.change_task_ring-requires
change_task_ring-requires g c =
    let some : 0 < (ring_of c.args.self.now.tasks.circles.entries c.args.task).len =
    omega (arith, c.if-ring-eq0.false, ap (λ (r : Ring). r.len) c.task_ring-ring.ensures) in
    ring_known c.args.self.now.tasks.circles.entries c.args.task some

pub end_in-requires-clause-circle : goal.end_in-requires-clause-circle
end_in-requires-clause-circle g c =
    task_circle c.args.self.now.elements.items c.args.self.now.tasks.circles.entries c.args.task c.task_ring-ring.result
    c.args.self.now.queues.keys c.args.self.now.linked c.task_ring-ring.ensures

pub returns-clause-count : goal.returns-clause-count
returns-clause-count g c =
    let xs = c.args.self.now.elements.items in
    let circle =
    task_circle xs c.args.self.now.tasks.circles.entries c.args.task c.task_ring-ring.result c.args.self.now.queues.keys
    c.args.self.now.linked c.task_ring-ring.ensures in
    circle-length Task (is_of c.args.task) xs c.task_ring-ring.result circle ∙ sym (count_of xs c.args.task)

pub invariant_of-self-clause-linked : goal.invariant_of-self-clause-linked
invariant_of-self-clause-linked g c =
    ends-cleared c.args.task c.end_in.new.elements.items c.args.self.now.tasks.circles.entries
    c.change_task_ring.new.tasks.circles.entries
    (c.end_in.ensures.others c.args.self.now.tasks.circles.entries c.args.self.now.linked) c.end_in.ensures.none
    (λ t.
    c.change_task_ring.ensures t
    ∙ ap (λ (r : Ring). cond (same_task c.args.task t) r (ring_of c.args.self.now.tasks.circles.entries t))
    c.empty.ensures)

pub returns-clause-room : goal.returns-clause-room
returns-clause-room g c =
    ap (λ b. cond b 1 0)
    (free_same c.end_in.new.heads.items c.args.self.now.heads.items c.args.self.now.free c.end_in.ensures.len
    c.end_in.ensures.live)
