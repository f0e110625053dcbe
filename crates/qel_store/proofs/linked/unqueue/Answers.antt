use Rattle.std.proofs.Common.{◌≤◌, ◌∙◌, ap, cond, eqb, subst, sym}
use Rattle.qel_store.specs.declared.elements.Side.TheVariants.{Queue}
use Rattle.qel_store.specs.declared.heads.Head.{Head}
use Rattle.qel_store.specs.Items.{Items, has_key}
use Rattle.qel_store.specs.Rings.{has_neighbours, tied}
use Rattle.qel_store.specs.Heads.{head_at, exclusive_one, without_elem}
use Rattle.qel_store.specs.Linked.{QueuesLinked}
use Rattle.qel_store.proofs.ItemLemmas.{has_key-found, has_key-dropped_itself}
use Rattle.qel_store.proofs.HeadLemmas.{live-kept}
use Rattle.qel_store.proofs.TieLemmas.{queue_there, exclusive_there, queue_neighbours-taken}
use Rattle.qel_store.proofs.LinkedLemmas.{QueuesLinked-taken}
use Rattle.qel_store.proofs.linked.unqueue.Goals as goal

pub remove-element-requires : goal.remove-element-requires
remove-element-requires g c = sym (has_key-found c.args.elements.now.items c.args.key) ∙ c.requires.there

pub tie-requires-clause-absent : goal.tie-requires-clause-absent
tie-requires-clause-absent g c =
    ap (λ (l : Items). has_key l c.args.key) c.remove-element.ensures.items
    ∙ has_key-dropped_itself c.args.key c.args.elements.now.items

pub tie-requires-clause-neighbours : goal.tie-requires-clause-neighbours
tie-requires-clause-neighbours g c =
    ap (λ (l : Items). has_neighbours l c.args.key c.remove-element.result.in_queue) c.remove-element.ensures.items
    ∙ queue_neighbours-taken c.args.elements.now.items c.args.heads.now.items c.args.key c.remove-element.result
    c.requires.queues c.remove-element.ensures.element

pub head_of-head-requires : goal.head_of-head-requires
head_of-head-requires g c =
    queue_there c.args.elements.now.items c.args.heads.now.items c.args.key c.remove-element.result c.requires.queues
    c.remove-element.ensures.element

pub without-less-requires : goal.without-less-requires
without-less-requires g c =
    subst (λ (h : Head). exclusive_one c.remove-element.result.elem.ctl ≤ h.exclusives) (sym c.head_of-head.ensures)
    (exclusive_there c.args.elements.now.items c.args.heads.now.items c.args.key c.remove-element.result
    c.requires.queues c.remove-element.ensures.element)

pub set_head-requires : goal.set_head-requires
set_head-requires g c =
    queue_there c.args.elements.now.items c.args.heads.now.items c.args.key c.remove-element.result c.requires.queues
    c.remove-element.ensures.element

pub returns-clause-items : goal.returns-clause-items
returns-clause-items g c =
    c.tie.ensures.items
    ∙ ap (tied Queue c.remove-element.result.in_queue c.remove-element.result.in_queue) c.remove-element.ensures.items

pub returns-clause-queues : goal.returns-clause-queues
returns-clause-queues g c =
    let e = c.remove-element.result in
    let hs = c.args.heads.now.items in
    let less =
    c.without-less.ensures
    ∙ ap (λ (h : Head). without_elem h c.args.key e.in_queue.next e.elem.ctl) c.head_of-head.ensures in
    subst (λ (l : Items). QueuesLinked l c.set_head.new.heads.items)
    (sym (c.tie.ensures.items ∙ ap (tied Queue e.in_queue e.in_queue) c.remove-element.ensures.items))
    (QueuesLinked-taken c.args.elements.now.items hs c.set_head.new.heads.items c.args.key e c.requires.queues
    c.remove-element.ensures.element
    (λ q. c.set_head.ensures.heads q ∙ ap (λ (h : Head). cond (eqb q e.queue) h (head_at hs q)) less))

pub returns-clause-live : goal.returns-clause-live
returns-clause-live g c =
    let e = c.remove-element.result in
    let less =
    c.without-less.ensures
    ∙ ap (λ (h : Head). without_elem h c.args.key e.in_queue.next e.elem.ctl) c.head_of-head.ensures in
    live-kept c.args.heads.now.items c.set_head.new.heads.items e.queue c.without-less.result
    (ap (λ (h : Head). h.live) less) c.set_head.ensures.heads
