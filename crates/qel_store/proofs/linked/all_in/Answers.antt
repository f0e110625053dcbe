use Rattle.qel_store.proofs.HeadLemmas.{live_there}
use Rattle.qel_store.proofs.TakeLemmas.{queue_circle}
use Rattle.qel_store.proofs.linked.all_in.Goals as goal

pub head_of-requires : goal.head_of-requires
head_of-requires g c = live_there c.args.heads.now.items c.args.queue c.requires.live

pub elems_in-requires : goal.elems_in-requires
elems_in-requires g c =
    queue_circle c.args.elements.now.items c.args.heads.now.items c.args.queue c.head_of.result c.requires.queues
    c.head_of.ensures
