use Rattle.std.proofs.Common.{◌<◌, arith}
use Rattle.qel_store.specs.declared.elements.Side.TheVariants.{Queue}
use Rattle.qel_store.specs.Items.{members, is_in}
use Rattle.qel_store.proofs.HeadLemmas.{live_there}
use Rattle.qel_store.proofs.StandingLemmas.{length-elems_of}
use Rattle.qel_store.proofs.WalkLemmas.{circle-length}
use Rattle.qel_store.proofs.TakeLemmas.{queue_circle, at_place, elem_at, member_there}
use Rattle.qel_store.proofs.linked.elem_in.Goals as goal

pub head_of-requires : goal.head_of-requires
head_of-requires g c = live_there c.args.heads.now.items c.args.queue c.requires.live

pub overflow_cast-at : goal.overflow_cast-at
overflow_cast-at g c =
    let within : c.args.place < c.head_of.result.ring.len =
    omega (
      arith,
      c.requires.place,
      length-elems_of (members (is_in c.args.queue) c.args.elements.now.items),
      circle-length Queue (is_in c.args.queue) c.args.elements.now.items c.head_of.result.ring
          (queue_circle c.args.elements.now.items c.args.heads.now.items c.args.queue c.head_of.result c.requires.queues
          c.head_of.ensures),
    ) in
    omega arith

pub key_at-key-requires-clause-circle : goal.key_at-key-requires-clause-circle
key_at-key-requires-clause-circle g c =
    queue_circle c.args.elements.now.items c.args.heads.now.items c.args.queue c.head_of.result c.requires.queues
    c.head_of.ensures

pub key_at-key-requires-clause-place : goal.key_at-key-requires-clause-place
key_at-key-requires-clause-place g c =
    let within : c.args.place < c.head_of.result.ring.len =
    omega (
      arith,
      c.requires.place,
      length-elems_of (members (is_in c.args.queue) c.args.elements.now.items),
      circle-length Queue (is_in c.args.queue) c.args.elements.now.items c.head_of.result.ring
          (queue_circle c.args.elements.now.items c.args.heads.now.items c.args.queue c.head_of.result c.requires.queues
          c.head_of.ensures),
    ) in
    omega arith

pub get-requires : goal.get-requires
get-requires g c =
    let within : c.args.place < c.head_of.result.ring.len =
    omega (
      arith,
      c.requires.place,
      length-elems_of (members (is_in c.args.queue) c.args.elements.now.items),
      circle-length Queue (is_in c.args.queue) c.args.elements.now.items c.head_of.result.ring
          (queue_circle c.args.elements.now.items c.args.heads.now.items c.args.queue c.head_of.result c.requires.queues
          c.head_of.ensures),
    ) in
    member_there c.args.queue c.key_at-key.result c.args.elements.now.items c.requires.queues.keys
    (at_place c.args.queue c.args.elements.now.items c.head_of.result.ring
    (queue_circle c.args.elements.now.items c.args.heads.now.items c.args.queue c.head_of.result c.requires.queues
    c.head_of.ensures)
    c.args.place c.key_at-key.result within c.key_at-key.ensures)

pub returns : goal.returns
returns g c =
    let within : c.args.place < c.head_of.result.ring.len =
    omega (
      arith,
      c.requires.place,
      length-elems_of (members (is_in c.args.queue) c.args.elements.now.items),
      circle-length Queue (is_in c.args.queue) c.args.elements.now.items c.head_of.result.ring
          (queue_circle c.args.elements.now.items c.args.heads.now.items c.args.queue c.head_of.result c.requires.queues
          c.head_of.ensures),
    ) in
    elem_at c.args.queue c.args.elements.now.items c.head_of.result.ring
    (queue_circle c.args.elements.now.items c.args.heads.now.items c.args.queue c.head_of.result c.requires.queues
    c.head_of.ensures)
    c.args.place c.key_at-key.result within c.key_at-key.ensures c.get.result c.get.ensures.element
