use Rattle.std.proofs.Common.{◌<◌, ◌∙◌, ap, arith, cond, eqb, subst, sym}
use Rattle.qel_store.specs.declared.heads.Head.{Head}
use Rattle.qel_store.specs.Items.{Items}
use Rattle.qel_store.specs.Heads.{head_at, with_exclusive}
use Rattle.qel_store.specs.Linked.{QueuesLinked}
use Rattle.qel_store.proofs.HeadLemmas.{live-kept}
use Rattle.qel_store.proofs.TakeLemmas.{queue_circle, member_there, member_queue_there, exclusive_room, queues-excluded}
use Rattle.qel_store.proofs.linked.exclude_shared.Goals as goal

pub set_exclusive-requires : goal.set_exclusive-requires
set_exclusive-requires g c =
    member_there c.args.queue c.args.key c.args.elements.now.items c.requires.queues.keys c.requires.there

pub head_of-head-requires : goal.head_of-head-requires
head_of-head-requires g c =
    member_queue_there c.args.queue c.args.key c.args.elements.now.items c.args.heads.now.items c.requires.queues
    c.requires.there

pub excluded-more-requires : goal.excluded-more-requires
excluded-more-requires g c =
    let room : c.head_of-head.result.exclusives < c.head_of-head.result.ring.len =
    exclusive_room c.args.queue c.args.key c.args.elements.now.items c.head_of-head.result
    (queue_circle c.args.elements.now.items c.args.heads.now.items c.args.queue c.head_of-head.result c.requires.queues
    c.head_of-head.ensures)
    c.requires.there c.requires.shared
    (ap (λ (h : Head). h.exclusives) c.head_of-head.ensures ∙ c.requires.queues.exclusives c.args.queue) in
    omega arith

pub set_head-requires : goal.set_head-requires
set_head-requires g c =
    member_queue_there c.args.queue c.args.key c.args.elements.now.items c.args.heads.now.items c.requires.queues
    c.requires.there

pub returns-clause-queues : goal.returns-clause-queues
returns-clause-queues g c =
    let hs = c.args.heads.now.items in
    let more = c.excluded-more.ensures ∙ ap with_exclusive c.head_of-head.ensures in
    subst (λ (l : Items). QueuesLinked l c.set_head.new.heads.items) (sym c.set_exclusive.ensures.items)
    (queues-excluded c.args.elements.now.items hs c.set_head.new.heads.items c.args.key c.args.queue c.requires.queues
    c.requires.there c.requires.shared
    (λ j. c.set_head.ensures.heads j ∙ ap (λ (h : Head). cond (eqb j c.args.queue) h (head_at hs j)) more))

pub returns-clause-live : goal.returns-clause-live
returns-clause-live g c =
    let more = c.excluded-more.ensures ∙ ap with_exclusive c.head_of-head.ensures in
    live-kept c.args.heads.now.items c.set_head.new.heads.items c.args.queue c.excluded-more.result
    (ap (λ (h : Head). h.live) more) c.set_head.ensures.heads
