use Rattle.std.proofs.Common.{◌<◌, ◌∙◌, arith, drop, sym}
use Rattle.qel_store.specs.declared.elements.Side.TheVariants.{Task}
use Rattle.qel_store.specs.Items.{members, is_of}
use Rattle.qel_store.proofs.WalkLemmas.{circle-first, circle-length, place-found, place-item}
use Rattle.qel_store.proofs.TakeLemmas.{task_circle, first_queue, no_queue, none_of}
use Rattle.qel_store.proofs.linked.first_in.Goals as goal

pub returns-then-ring-eq0-clause-queue : goal.returns-then-ring-eq0-clause-queue
returns-then-ring-eq0-clause-queue g c =
    let xs = c.args.elements.now.items in
    let circle =
    task_circle xs c.args.tasks.now.circles.entries c.args.task c.task_ring-ring.result c.requires.keys c.requires.tasks
    c.task_ring-ring.ensures in
    no_queue xs c.args.task (none_of (members (is_of c.args.task) xs)
    (sym (circle-length Task (is_of c.args.task) xs c.task_ring-ring.result circle) ∙ c.if-ring-eq0.true))

pub get-requires : goal.get-requires
get-requires g c =
    let xs = c.args.elements.now.items in
    let circle =
    task_circle xs c.args.tasks.now.circles.entries c.args.task c.task_ring-ring.result c.requires.keys c.requires.tasks
    c.task_ring-ring.ensures in
    let some : 0 < c.task_ring-ring.result.len = omega (arith, c.if-ring-eq0.false) in
    place-found Task (is_of c.args.task) xs c.task_ring-ring.result circle 0 c.task_ring-ring.result.first some
    (circle-first Task (is_of c.args.task) xs c.task_ring-ring.result circle)

pub returns-clause-queue : goal.returns-clause-queue
returns-clause-queue g c =
    let xs = c.args.elements.now.items in
    let circle =
    task_circle xs c.args.tasks.now.circles.entries c.args.task c.task_ring-ring.result c.requires.keys c.requires.tasks
    c.task_ring-ring.ensures in
    let some : 0 < c.task_ring-ring.result.len = omega (arith, c.if-ring-eq0.false) in
    first_queue xs c.args.task c.task_ring-ring.result.first c.get.result (drop 1 (members (is_of c.args.task) xs))
    (place-item Task (is_of c.args.task) xs c.task_ring-ring.result circle 0 c.task_ring-ring.result.first c.get.result
    some (circle-first Task (is_of c.args.task) xs c.task_ring-ring.result circle) c.get.ensures.element)
