use Rattle.std.proofs.Common.{◌∙◌, ap, cond, eqb, false}
use Rattle.qel_store.specs.declared.heads.Head.{Head}
use Rattle.qel_store.specs.Heads.{head_at, in_use}
use Rattle.qel_store.proofs.HeadLemmas.{live_there}
use Rattle.qel_store.proofs.StoreLemmas.{QueuesLinked-gone, gone_live, list_none}
use Rattle.qel_store.proofs.linked.LinkedQueuesQueues.drop_empty.Goals as goal

pub head_of-head-requires : goal.head_of-head-requires
head_of-head-requires c = live_there c.args.self.now.heads.items c.args.queue c.requires.live

pub set_head-requires : goal.set_head-requires
set_head-requires c = live_there c.args.self.now.heads.items c.args.queue c.requires.live

pub invariant_of-self-clause-queues : goal.invariant_of-self-clause-queues
invariant_of-self-clause-queues c =
    let gone = c.in_use-gone.ensures ∙ ap (λ (h : Head). in_use h false c.args.self.now.free) c.head_of-head.ensures in
    QueuesLinked-gone c.args.self.now.elements.items c.args.self.now.heads.items c.set_head.new.heads.items c.args.queue
    c.args.self.now.free c.args.self.now.queues (list_none c.args.self.now.elements.items c.args.queue c.requires.empty)
    (λ q.
    c.set_head.ensures.heads q
    ∙ ap (λ (h : Head). cond (eqb q c.args.queue) h (head_at c.args.self.now.heads.items q)) gone)

pub returns-clause-live : goal.returns-clause-live
returns-clause-live c =
    let gone = c.in_use-gone.ensures ∙ ap (λ (h : Head). in_use h false c.args.self.now.free) c.head_of-head.ensures in
    gone_live c.args.self.now.heads.items c.set_head.new.heads.items c.args.queue c.args.self.now.free
    (λ q.
    c.set_head.ensures.heads q
    ∙ ap (λ (h : Head). cond (eqb q c.args.queue) h (head_at c.args.self.now.heads.items q)) gone)
