use Rattle.std.proofs.Common.{◌∙◌, ap, cond, eqb, true}
use Rattle.qel_store.specs.declared.heads.Head.{Head}
use Rattle.qel_store.specs.Heads.{head_at, is_free_at, in_use}
use Rattle.qel_store.proofs.HeadLemmas.{free_there, free_dead}
use Rattle.qel_store.proofs.StoreLemmas.{QueuesLinked-made, made_live, none_list, dead_none, room_is}
use Rattle.qel_store.proofs.linked.LinkedQueuesQueues.make.Goals as goal

pub head_of-head-requires : goal.head_of-head-requires
head_of-head-requires c =
    free_there c.args.self.now.heads.items c.args.self.now.free
    (room_is (is_free_at c.args.self.now.heads.items c.args.self.now.free) c.requires)

pub set_head-requires : goal.set_head-requires
set_head-requires c =
    free_there c.args.self.now.heads.items c.args.self.now.free
    (room_is (is_free_at c.args.self.now.heads.items c.args.self.now.free) c.requires)

pub invariant_of-self-clause-queues : goal.invariant_of-self-clause-queues
invariant_of-self-clause-queues c =
    let used = c.in_use-used.ensures ∙ ap (λ (h : Head). in_use h true c.args.self.now.free) c.head_of-head.ensures in
    QueuesLinked-made c.args.self.now.elements.items c.args.self.now.heads.items c.set_head.new.heads.items
    c.args.self.now.free c.args.self.now.free c.args.self.now.queues
    (λ q.
    c.set_head.ensures.heads q
    ∙ ap (λ (h : Head). cond (eqb q c.args.self.now.free) h (head_at c.args.self.now.heads.items q)) used)

pub returns-clause-fresh : goal.returns-clause-fresh
returns-clause-fresh c =
    free_dead c.args.self.now.heads.items c.args.self.now.free
    (room_is (is_free_at c.args.self.now.heads.items c.args.self.now.free) c.requires)

pub returns-clause-empty : goal.returns-clause-empty
returns-clause-empty c =
    none_list c.args.self.now.elements.items c.args.self.now.free
    (dead_none c.args.self.now.elements.items c.args.self.now.heads.items c.args.self.now.free
    c.args.self.now.queues.live (free_dead c.args.self.now.heads.items c.args.self.now.free
    (room_is (is_free_at c.args.self.now.heads.items c.args.self.now.free) c.requires)))

pub returns-clause-live : goal.returns-clause-live
returns-clause-live c =
    let used = c.in_use-used.ensures ∙ ap (λ (h : Head). in_use h true c.args.self.now.free) c.head_of-head.ensures in
    made_live c.args.self.now.heads.items c.set_head.new.heads.items c.args.self.now.free c.args.self.now.free
    (λ q.
    c.set_head.ensures.heads q
    ∙ ap (λ (h : Head). cond (eqb q c.args.self.now.free) h (head_at c.args.self.now.heads.items q)) used)
