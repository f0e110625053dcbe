use Rattle.std.proofs.Common.{◌∙◌, ap, sym}
use Rattle.qel_store.specs.declared.heads.Head.{Head}
use Rattle.qel_store.specs.Items.{members, is_in}
use Rattle.qel_store.proofs.HeadLemmas.{live_there}
use Rattle.qel_store.proofs.StandingLemmas.{standing-absent}
use Rattle.qel_store.proofs.TakeLemmas.{queue_circle}
use Rattle.qel_store.proofs.linked.standing_in.Goals as goal

pub head_of-head-requires : goal.head_of-head-requires
head_of-head-requires g c = live_there c.args.heads.now.items c.args.queue c.requires.live

pub find-requires-clause-queue : goal.find-requires-clause-queue
find-requires-clause-queue g c =
    queue_circle c.args.elements.now.items c.args.heads.now.items c.args.queue c.head_of-head.result c.requires.queues
    c.head_of-head.ensures

pub stands-requires-clause-circle : goal.stands-requires-clause-circle
stands-requires-clause-circle g c =
    queue_circle c.args.elements.now.items c.args.heads.now.items c.args.queue c.head_of-head.result c.requires.queues
    c.head_of-head.ensures

pub stands-requires-clause-exclusives : goal.stands-requires-clause-exclusives
stands-requires-clause-exclusives g c =
    ap (λ (h : Head). h.exclusives) c.head_of-head.ensures ∙ c.requires.queues.exclusives c.args.queue

pub stands-requires-clause-key : goal.stands-requires-clause-key
stands-requires-clause-key g c = sym c.in-Some.ensures

pub returns : goal.returns
returns g c =
    sym (standing-absent (members (is_in c.args.queue) c.args.elements.now.items) c.args.task (sym c.in-None.ensures))
