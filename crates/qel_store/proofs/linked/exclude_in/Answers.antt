use Rattle.std.proofs.Common.{◌<◌, arith}
use Rattle.qel_store.specs.declared.elements.Side.TheVariants.{Queue}
use Rattle.qel_store.specs.Items.{members, is_in}
use Rattle.qel_store.proofs.HeadLemmas.{live_there}
use Rattle.qel_store.proofs.StandingLemmas.{length-elems_of}
use Rattle.qel_store.proofs.WalkLemmas.{circle-length}
use Rattle.std.proofs.Common.{sym, subst}
use Rattle.qel_store.specs.Items.{Items}
use Rattle.qel_store.specs.Linked.{AllLinked}
use Rattle.qel_store.proofs.LinkedLemmas.{AllLinked-changed}
use Rattle.qel_store.proofs.TakeLemmas.{queue_circle, at_place, excluded_held}
use Rattle.qel_store.proofs.linked.exclude_in.Goals as goal

pub head_of-requires : goal.head_of-requires
head_of-requires g c = live_there c.args.heads.now.items c.args.queue c.requires.live

pub overflow_cast-at : goal.overflow_cast-at
overflow_cast-at g c =
    let within : c.args.place < c.head_of.result.ring.len =
    omega (
      arith,
      c.requires.place,
      length-elems_of (members (is_in c.args.queue) c.args.elements.now.items),
      circle-length Queue (is_in c.args.queue) c.args.elements.now.items c.head_of.result.ring
          (queue_circle c.args.elements.now.items c.args.heads.now.items c.args.queue c.head_of.result c.requires.queues
          c.head_of.ensures),
    ) in
    omega arith

pub key_at-key-requires-clause-circle : goal.key_at-key-requires-clause-circle
key_at-key-requires-clause-circle g c =
    queue_circle c.args.elements.now.items c.args.heads.now.items c.args.queue c.head_of.result c.requires.queues
    c.head_of.ensures

pub key_at-key-requires-clause-place : goal.key_at-key-requires-clause-place
key_at-key-requires-clause-place g c =
    let within : c.args.place < c.head_of.result.ring.len =
    omega (
      arith,
      c.requires.place,
      length-elems_of (members (is_in c.args.queue) c.args.elements.now.items),
      circle-length Queue (is_in c.args.queue) c.args.elements.now.items c.head_of.result.ring
          (queue_circle c.args.elements.now.items c.args.heads.now.items c.args.queue c.head_of.result c.requires.queues
          c.head_of.ensures),
    ) in
    omega arith

pub exclude-requires-clause-there : goal.exclude-requires-clause-there
exclude-requires-clause-there g c =
    let within : c.args.place < c.head_of.result.ring.len =
    omega (
      arith,
      c.requires.place,
      length-elems_of (members (is_in c.args.queue) c.args.elements.now.items),
      circle-length Queue (is_in c.args.queue) c.args.elements.now.items c.head_of.result.ring
          (queue_circle c.args.elements.now.items c.args.heads.now.items c.args.queue c.head_of.result c.requires.queues
          c.head_of.ensures),
    ) in
    at_place c.args.queue c.args.elements.now.items c.head_of.result.ring
    (queue_circle c.args.elements.now.items c.args.heads.now.items c.args.queue c.head_of.result c.requires.queues
    c.head_of.ensures)
    c.args.place c.key_at-key.result within c.key_at-key.ensures

pub returns-clause-held : goal.returns-clause-held
returns-clause-held g c =
    let within : c.args.place < c.head_of.result.ring.len =
    omega (
      arith,
      c.requires.place,
      length-elems_of (members (is_in c.args.queue) c.args.elements.now.items),
      circle-length Queue (is_in c.args.queue) c.args.elements.now.items c.head_of.result.ring
          (queue_circle c.args.elements.now.items c.args.heads.now.items c.args.queue c.head_of.result c.requires.queues
          c.head_of.ensures),
    ) in
    excluded_held c.args.queue c.args.elements.now.items c.head_of.result.ring
    (queue_circle c.args.elements.now.items c.args.heads.now.items c.args.queue c.head_of.result c.requires.queues
    c.head_of.ensures)
    c.args.place c.key_at-key.result within c.key_at-key.ensures c.args.heads.now.items c.exclude.new.elements.items
    c.requires.queues c.exclude.ensures.items

pub returns-clause-tasks : goal.returns-clause-tasks
returns-clause-tasks g c = λ ts m.
    subst (λ (l : Items). AllLinked l ts) (sym c.exclude.ensures.items)
    (AllLinked-changed c.args.elements.now.items ts c.key_at-key.result m)
