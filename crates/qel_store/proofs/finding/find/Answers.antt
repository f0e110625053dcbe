use Rattle.std.proofs.Common.{◌<◌, ◌∙◌, ap, arith, refl, sym}
use Rattle.qel_store.specs.declared.elements.Side.TheVariants.{Queue}
use Rattle.qel_store.specs.declared.rings.Ring.{Ring}
use Rattle.qel_store.specs.Items.{members, is_in, is_of}
use Rattle.qel_store.specs.Rings.{leads}
use Rattle.qel_store.proofs.StandingLemmas.{key_of-either}
use Rattle.qel_store.proofs.WalkLemmas.{circle-first, place-found, seek-hit}
use Rattle.qel_store.proofs.finding.find.Goals as goal

pub get-first-requires : goal.get-first-requires
get-first-requires g c =
    let some : 0 < c.args.ring.len = omega (arith, c.if-ring-le-FEW.false) in
    place-found Queue (is_in c.args.queue) c.args.elements.now.items c.args.ring c.requires.queue 0 c.args.ring.first
    some (circle-first Queue (is_in c.args.queue) c.args.elements.now.items c.args.ring c.requires.queue)

pub returns-then-is_same_task : goal.returns-then-is_same_task
returns-then-is_same_task g c =
    let some : 0 < c.args.ring.len = omega (arith, c.if-ring-le-FEW.false) in
    seek-hit Queue (is_in c.args.queue) (is_of c.args.task) c.args.elements.now.items c.args.ring c.requires.queue 0
    c.args.ring.first c.get-first.result some
    (circle-first Queue (is_in c.args.queue) c.args.elements.now.items c.args.ring c.requires.queue)
    c.get-first.ensures.element refl (sym c.is_same_task.ensures ∙ c.if-is_same_task.true)

pub seek_queue-requires : goal.seek_queue-requires
seek_queue-requires g c = record {
  apart = c.requires.queue.apart;
  circle = c.requires.tasks.circles c.args.task refl;
  led =
      ap (λ (r : Ring). leads r (members (is_of c.args.task) c.args.elements.now.items)) c.task_ring-held.ensures
      ∙ c.requires.tasks.led c.args.task refl;
}

pub returns-then-held-ring : goal.returns-then-held-ring
returns-then-held-ring g c = c.seek_queue.ensures ∙ key_of-either c.args.queue c.args.task c.args.elements.now.items
