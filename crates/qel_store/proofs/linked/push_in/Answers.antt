use Rattle.std.proofs.Common.{◌++◌, ◌∷◌, [], ◌∙◌, ℕ, ap, arith, cond, eqb, refl, subst, sym}
use Rattle.qel_store.specs.declared.elements.Element.{Element}
use Rattle.qel_store.specs.declared.elements.Link.{Link}
use Rattle.qel_store.specs.declared.elements.Side.TheVariants.{Queue, Task}
use Rattle.qel_store.specs.declared.heads.Head.{Head}
use Rattle.qel_store.specs.declared.rings.Ring.{Ring}
use Rattle.qel_store.specs.Items.{Items, has_key, is_in, is_of}
use Rattle.qel_store.specs.Rings.{IsLastLink, has_neighbours, tied}
use Rattle.qel_store.specs.Heads.{head_at, with_elem}
use Rattle.qel_store.specs.Tasks.{ring_of}
use Rattle.qel_store.proofs.ItemLemmas.{has_key-none}
use Rattle.qel_store.proofs.HeadLemmas.{live_there, live-kept}
use Rattle.qel_store.proofs.TieLemmas.{has_key-tied, has_neighbours-tied}
use Rattle.qel_store.proofs.LinkedLemmas.{queue_neighbours, task_neighbours, pushed}
use Rattle.qel_store.proofs.TakeLemmas.{first_has, ring_few, exclusives_few, queue_circle, task_circle}
use Rattle.qel_store.proofs.linked.push_in.Goals as goal

pub head_of-head-requires : goal.head_of-head-requires
head_of-head-requires g c = live_there c.args.heads.now.items c.args.queue c.requires.live

pub last_link-in_queue-requires : goal.last_link-in_queue-requires
last_link-in_queue-requires g c =
    first_has (is_in c.args.queue) c.args.elements.now.items c.head_of-head.result.ring
    (queue_circle c.args.elements.now.items c.args.heads.now.items c.args.queue c.head_of-head.result c.requires.queues
    c.head_of-head.ensures).led

pub add_to_task-ring-requires-clause-few : goal.add_to_task-ring-requires-clause-few
add_to_task-ring-requires-clause-few g c =
    omega (
      arith,
      c.next_key-key.ensures.few,
      ring_few (is_of c.args.elem.task) c.args.elements.now.items
          (ring_of c.args.tasks.now.circles.entries c.args.elem.task)
          (task_circle c.args.elements.now.items c.args.tasks.now.circles.entries c.args.elem.task
          (ring_of c.args.tasks.now.circles.entries c.args.elem.task) c.requires.queues.keys c.requires.tasks refl).led,
    )

pub last_link-of_task-requires : goal.last_link-of_task-requires
last_link-of_task-requires g c =
    first_has (is_of c.args.elem.task) c.args.elements.now.items c.add_to_task-ring.result
    (task_circle c.args.elements.now.items c.args.tasks.now.circles.entries c.args.elem.task c.add_to_task-ring.result
    c.requires.queues.keys c.requires.tasks c.add_to_task-ring.ensures.was).led

pub with-more-requires-clause-ring : goal.with-more-requires-clause-ring
with-more-requires-clause-ring g c =
    omega (
      arith,
      c.next_key-key.ensures.few,
      ring_few (is_in c.args.queue) c.args.elements.now.items c.head_of-head.result.ring
          (queue_circle c.args.elements.now.items c.args.heads.now.items c.args.queue c.head_of-head.result
          c.requires.queues c.head_of-head.ensures).led,
    )

pub with-more-requires-clause-exclusives : goal.with-more-requires-clause-exclusives
with-more-requires-clause-exclusives g c =
    omega (
      arith,
      c.next_key-key.ensures.few,
      exclusives_few (is_in c.args.queue) c.args.elements.now.items c.head_of-head.result.exclusives
          (ap (λ (h : Head). h.exclusives) c.head_of-head.ensures ∙ c.requires.queues.exclusives c.args.queue),
    )

pub set_head-requires : goal.set_head-requires
set_head-requires g c = live_there c.args.heads.now.items c.args.queue c.requires.live

pub tie-requires-clause-absent : goal.tie-requires-clause-absent
tie-requires-clause-absent g c =
    has_key-none c.args.elements.now.items c.next_key-key.result c.next_key-key.ensures.free

pub tie-requires-clause-neighbours : goal.tie-requires-clause-neighbours
tie-requires-clause-neighbours g c =
    let xs = c.args.elements.now.items in
    let hs = c.args.heads.now.items in
    let ts = c.args.tasks.now.circles.entries in
    let key = c.next_key-key.result in
    let e :
    Element = record {
      elem = c.args.elem;
      queue = c.args.queue;
      in_queue = c.last_link-in_queue.result;
      of_task = c.last_link-of_task.result;
    } in
    let new = has_key-none xs key c.next_key-key.ensures.free in
    let in_queue =
    subst (λ (h : Head). IsLastLink Queue xs h.ring key c.last_link-in_queue.result) c.head_of-head.ensures
    c.last_link-in_queue.ensures in
    let of_task =
    subst (λ (r : Ring). IsLastLink Task xs r key c.last_link-of_task.result) c.add_to_task-ring.ensures.was
    c.last_link-of_task.ensures in
    let more = c.with-more.ensures ∙ ap (λ (h : Head). with_elem h key c.args.elem.ctl) c.head_of-head.ensures in
    let heads = λ (q : ℕ).
    c.set_head.ensures.heads q ∙ ap (λ (h : Head). cond (eqb q c.args.queue) h (head_at hs q)) more in
    let rings = c.add_to_task-ring.ensures.rings in
    queue_neighbours xs hs c.set_head.new.heads.items ts c.add_to_task-ring.new.tasks.circles.entries key e
    c.requires.queues c.requires.tasks new in_queue of_task c.requires.live c.requires.absent heads rings

pub tie-requires-2-clause-absent : goal.tie-requires-2-clause-absent
tie-requires-2-clause-absent g c =
    ap (λ (l : Items). has_key l c.next_key-key.result) c.tie.ensures.items
    ∙ has_key-tied Queue c.last_link-in_queue.result
    (record { next = c.next_key-key.result; prev = c.next_key-key.result }) c.args.elements.now.items
    c.next_key-key.result
    ∙ has_key-none c.args.elements.now.items c.next_key-key.result c.next_key-key.ensures.free

pub tie-requires-2-clause-neighbours : goal.tie-requires-2-clause-neighbours
tie-requires-2-clause-neighbours g c =
    let xs = c.args.elements.now.items in
    let hs = c.args.heads.now.items in
    let ts = c.args.tasks.now.circles.entries in
    let key = c.next_key-key.result in
    let e :
    Element = record {
      elem = c.args.elem;
      queue = c.args.queue;
      in_queue = c.last_link-in_queue.result;
      of_task = c.last_link-of_task.result;
    } in
    let new = has_key-none xs key c.next_key-key.ensures.free in
    let in_queue =
    subst (λ (h : Head). IsLastLink Queue xs h.ring key c.last_link-in_queue.result) c.head_of-head.ensures
    c.last_link-in_queue.ensures in
    let of_task =
    subst (λ (r : Ring). IsLastLink Task xs r key c.last_link-of_task.result) c.add_to_task-ring.ensures.was
    c.last_link-of_task.ensures in
    let more = c.with-more.ensures ∙ ap (λ (h : Head). with_elem h key c.args.elem.ctl) c.head_of-head.ensures in
    let heads = λ (q : ℕ).
    c.set_head.ensures.heads q ∙ ap (λ (h : Head). cond (eqb q c.args.queue) h (head_at hs q)) more in
    let rings = c.add_to_task-ring.ensures.rings in
    ap (λ (l : Items). has_neighbours l key c.last_link-of_task.result) c.tie.ensures.items
    ∙ has_neighbours-tied Queue c.last_link-in_queue.result (record { next = key; prev = key }) xs key
    c.last_link-of_task.result
    ∙ task_neighbours xs hs c.set_head.new.heads.items ts c.add_to_task-ring.new.tasks.circles.entries key e
    c.requires.queues c.requires.tasks new in_queue of_task c.requires.live c.requires.absent heads rings

pub returns : goal.returns
returns g c =
    let xs = c.args.elements.now.items in
    let hs = c.args.heads.now.items in
    let ts = c.args.tasks.now.circles.entries in
    let key = c.next_key-key.result in
    let e :
    Element = record {
      elem = c.args.elem;
      queue = c.args.queue;
      in_queue = c.last_link-in_queue.result;
      of_task = c.last_link-of_task.result;
    } in
    let new = has_key-none xs key c.next_key-key.ensures.free in
    let in_queue =
    subst (λ (h : Head). IsLastLink Queue xs h.ring key c.last_link-in_queue.result) c.head_of-head.ensures
    c.last_link-in_queue.ensures in
    let of_task =
    subst (λ (r : Ring). IsLastLink Task xs r key c.last_link-of_task.result) c.add_to_task-ring.ensures.was
    c.last_link-of_task.ensures in
    let more = c.with-more.ensures ∙ ap (λ (h : Head). with_elem h key c.args.elem.ctl) c.head_of-head.ensures in
    let heads = λ (q : ℕ).
    c.set_head.ensures.heads q ∙ ap (λ (h : Head). cond (eqb q c.args.queue) h (head_at hs q)) more in
    let rings = c.add_to_task-ring.ensures.rings in
    let here : Link = record { next = key; prev = key } in
    let next = c.tie-2.ensures.next_key ∙ c.tie.ensures.next_key ∙ sym c.next_key-key.ensures.key in
    let now = c.insert.ensures.items
    ∙ ap (λ (j : ℕ). c.tie-2.new.elements.items ++ (j, e) ∷ []) next
    ∙ ap (λ (l : Items). l ++ (key, e) ∷ [])
    (c.tie-2.ensures.items ∙ ap (tied Task e.of_task here) c.tie.ensures.items) in
    let all =
    pushed xs hs c.set_head.new.heads.items ts c.add_to_task-ring.new.tasks.circles.entries key e c.requires.queues
    c.requires.tasks new in_queue of_task c.requires.live c.requires.absent heads rings c.insert.new.self.items now in
    record {
      queues = all.0;
      tasks = all.1.0;
      len = c.set_head.ensures.len;
      live =
          live-kept hs c.set_head.new.heads.items c.args.queue c.with-more.result (ap (λ (h : Head). h.live) more)
          c.set_head.ensures.heads;
      held = all.1.1;
    }
