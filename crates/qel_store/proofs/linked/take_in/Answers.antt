use Rattle.std.proofs.Common.{◌<◌, arith}
use Rattle.qel_store.specs.declared.elements.Side.TheVariants.{Queue}
use Rattle.qel_store.specs.Items.{members, is_in}
use Rattle.qel_store.proofs.HeadLemmas.{live_there}
use Rattle.qel_store.proofs.StandingLemmas.{length-elems_of}
use Rattle.qel_store.proofs.WalkLemmas.{circle-length}
use Rattle.qel_store.specs.Items.{held_of}
use Rattle.qel_store.proofs.TakeLemmas.{key_lifts, queue_circle, at_place, taken_elem, taken_held}
use Rattle.qel_store.proofs.linked.take_in.Goals as goal

pub head_of-requires : goal.head_of-requires
head_of-requires g c = live_there c.args.heads.now.items c.args.queue c.requires.live

pub overflow_cast-at : goal.overflow_cast-at
overflow_cast-at g c =
    let within : c.args.place < c.head_of.result.ring.len =
    omega (
      arith,
      c.requires.place,
      length-elems_of (members (is_in c.args.queue) c.args.elements.now.items),
      circle-length Queue (is_in c.args.queue) c.args.elements.now.items c.head_of.result.ring
          (queue_circle c.args.elements.now.items c.args.heads.now.items c.args.queue c.head_of.result c.requires.queues
          c.head_of.ensures),
    ) in
    omega arith

pub key_at-key-requires-clause-circle : goal.key_at-key-requires-clause-circle
key_at-key-requires-clause-circle g c =
    queue_circle c.args.elements.now.items c.args.heads.now.items c.args.queue c.head_of.result c.requires.queues
    c.head_of.ensures

pub key_at-key-requires-clause-place : goal.key_at-key-requires-clause-place
key_at-key-requires-clause-place g c =
    let within : c.args.place < c.head_of.result.ring.len =
    omega (
      arith,
      c.requires.place,
      length-elems_of (members (is_in c.args.queue) c.args.elements.now.items),
      circle-length Queue (is_in c.args.queue) c.args.elements.now.items c.head_of.result.ring
          (queue_circle c.args.elements.now.items c.args.heads.now.items c.args.queue c.head_of.result c.requires.queues
          c.head_of.ensures),
    ) in
    omega arith

pub take_key-requires-clause-there : goal.take_key-requires-clause-there
take_key-requires-clause-there g c =
    let within : c.args.place < c.head_of.result.ring.len =
    omega (
      arith,
      c.requires.place,
      length-elems_of (members (is_in c.args.queue) c.args.elements.now.items),
      circle-length Queue (is_in c.args.queue) c.args.elements.now.items c.head_of.result.ring
          (queue_circle c.args.elements.now.items c.args.heads.now.items c.args.queue c.head_of.result c.requires.queues
          c.head_of.ensures),
    ) in
    key_lifts (is_in c.args.queue) c.args.elements.now.items c.key_at-key.result
    (at_place c.args.queue c.args.elements.now.items c.head_of.result.ring
    (queue_circle c.args.elements.now.items c.args.heads.now.items c.args.queue c.head_of.result c.requires.queues
    c.head_of.ensures)
    c.args.place c.key_at-key.result within c.key_at-key.ensures)

pub returns-clause-elem : goal.returns-clause-elem
returns-clause-elem g c =
    let within : c.args.place < c.head_of.result.ring.len =
    omega (
      arith,
      c.requires.place,
      length-elems_of (members (is_in c.args.queue) c.args.elements.now.items),
      circle-length Queue (is_in c.args.queue) c.args.elements.now.items c.head_of.result.ring
          (queue_circle c.args.elements.now.items c.args.heads.now.items c.args.queue c.head_of.result c.requires.queues
          c.head_of.ensures),
    ) in
    taken_elem c.args.queue c.args.elements.now.items c.head_of.result.ring
    (queue_circle c.args.elements.now.items c.args.heads.now.items c.args.queue c.head_of.result c.requires.queues
    c.head_of.ensures)
    c.args.place c.key_at-key.result within c.key_at-key.ensures c.take_key.result c.take_key.ensures.elem

pub returns-clause-held : goal.returns-clause-held
returns-clause-held g c =
    let within : c.args.place < c.head_of.result.ring.len =
    omega (
      arith,
      c.requires.place,
      length-elems_of (members (is_in c.args.queue) c.args.elements.now.items),
      circle-length Queue (is_in c.args.queue) c.args.elements.now.items c.head_of.result.ring
          (queue_circle c.args.elements.now.items c.args.heads.now.items c.args.queue c.head_of.result c.requires.queues
          c.head_of.ensures),
    ) in
    taken_held c.args.queue c.args.elements.now.items c.head_of.result.ring
    (queue_circle c.args.elements.now.items c.args.heads.now.items c.args.queue c.head_of.result c.requires.queues
    c.head_of.ensures)
    c.args.place c.key_at-key.result within c.key_at-key.ensures c.take_key.result
    (held_of c.take_key.new.elements.items) c.take_key.ensures.elem c.take_key.ensures.held
