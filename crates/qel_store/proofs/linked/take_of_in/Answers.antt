use Rattle.std.proofs.Common.{◌∙◌, ap, is_some, sym}
use Rattle.qel_store.specs.Items.{members, is_in, held_of}
use Rattle.qel_store.proofs.ItemLemmas.{has_key-found}
use Rattle.qel_store.proofs.HeadLemmas.{live_there}
use Rattle.qel_store.proofs.LinkedLemmas.{without-none}
use Rattle.qel_store.proofs.StandingLemmas.{has_task-key, own-there}
use Rattle.qel_store.proofs.TakeLemmas.{queue_circle, taken_of}
use Rattle.qel_store.proofs.linked.take_of_in.Goals as goal

pub head_of-requires : goal.head_of-requires
head_of-requires g c = live_there c.args.heads.now.items c.args.queue c.requires.live

pub find-requires-clause-queue : goal.find-requires-clause-queue
find-requires-clause-queue g c =
    queue_circle c.args.elements.now.items c.args.heads.now.items c.args.queue c.head_of.result c.requires.queues
    c.head_of.ensures

pub take_key-requires-clause-there : goal.take_key-requires-clause-there
take_key-requires-clause-there g c =
    has_key-found c.args.elements.now.items c.in-Some.key
    ∙ own-there c.args.queue c.args.task c.args.elements.now.items c.in-Some.key c.requires.queues.keys
    (sym c.in-Some.ensures)

pub returns-in-Some-clause-there : goal.returns-in-Some-clause-there
returns-in-Some-clause-there g c =
    sym (has_task-key (members (is_in c.args.queue) c.args.elements.now.items) c.args.task
    ∙ ap is_some (sym c.in-Some.ensures))

pub returns-in-Some-clause-held : goal.returns-in-Some-clause-held
returns-in-Some-clause-held g c =
    taken_of c.args.queue c.args.task c.args.elements.now.items c.in-Some.key (held_of c.take_key.new.elements.items)
    c.requires.queues.keys (sym c.in-Some.ensures) c.take_key.ensures.held

pub returns-clause-there : goal.returns-clause-there
returns-clause-there g c =
    sym (has_task-key (members (is_in c.args.queue) c.args.elements.now.items) c.args.task
    ∙ ap is_some (sym c.in-None.ensures))

pub returns-clause-held : goal.returns-clause-held
returns-clause-held g c =
    without-none c.args.queue c.args.task c.args.elements.now.items
    (has_task-key (members (is_in c.args.queue) c.args.elements.now.items) c.args.task
    ∙ ap is_some (sym c.in-None.ensures))
