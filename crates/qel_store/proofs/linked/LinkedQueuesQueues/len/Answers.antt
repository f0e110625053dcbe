use Rattle.std.proofs.Common.{◌∙◌, sym}
use Rattle.qel_store.specs.declared.elements.Side.TheVariants.{Queue}
use Rattle.qel_store.specs.Items.{is_in}
use Rattle.qel_store.proofs.HeadLemmas.{live_there}
use Rattle.qel_store.proofs.TakeLemmas.{queue_circle, length_at}
use Rattle.qel_store.proofs.WalkLemmas.{circle-length}
use Rattle.qel_store.proofs.linked.LinkedQueuesQueues.len.Goals as goal

pub head_of-requires : goal.head_of-requires
head_of-requires c = live_there c.args.self.now.heads.items c.args.queue c.requires

pub returns : goal.returns
returns c =
    circle-length Queue (is_in c.args.queue) c.args.self.now.elements.items c.head_of.result.ring
    (queue_circle c.args.self.now.elements.items c.args.self.now.heads.items c.args.queue c.head_of.result
    c.args.self.now.queues c.head_of.ensures)
    ∙ sym (length_at c.args.self.now.elements.items c.args.queue)
