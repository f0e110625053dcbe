use Rattle.std.proofs.Common.{◌∙◌, ap, sym}
use Rattle.grs_base.specs.Lists.{all_shared}
use Rattle.qel_store.specs.declared.heads.Head.{Head}
use Rattle.qel_store.specs.Items.{members, is_in}
use Rattle.qel_store.proofs.HeadLemmas.{live_there}
use Rattle.qel_store.proofs.TieLemmas.{list_at-held}
use Rattle.qel_store.proofs.StandingLemmas.{shared_of-count}
use Rattle.qel_store.proofs.linked.LinkedQueuesQueues.all_shared.Goals as goal

pub head_of-requires : goal.head_of-requires
head_of-requires c = live_there c.args.self.now.heads.items c.args.queue c.requires

pub returns : goal.returns
returns c =
    shared_of-count (members (is_in c.args.queue) c.args.self.now.elements.items) c.head_of.result.exclusives
    (ap (λ (h : Head). h.exclusives) c.head_of.ensures ∙ c.args.self.now.queues.exclusives c.args.queue)
    ∙ ap all_shared (sym (list_at-held c.args.self.now.elements.items c.args.queue))
