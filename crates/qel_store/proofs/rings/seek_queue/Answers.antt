use Rattle.std.proofs.Common.{refl}
use Rattle.qel_store.specs.declared.elements.Side.TheVariants.{Task}
use Rattle.qel_store.specs.Items.{is_of, is_of, is_in}
use Rattle.qel_store.proofs.WalkLemmas.{circle-first, place-found, place-next, seek-hit, seek-miss, in_queue, in_other}
use Rattle.qel_store.proofs.rings.seek_queue.Goals as goal

pub loop-i-init : goal.loop-i-init
loop-i-init g c = record {
  key = circle-first Task (is_of c.args._task) c.args.elements.now.items c.args.ring c.requires;
  rest = refl;
}

pub get-element-requires : goal.get-element-requires
get-element-requires g c =
    place-found Task (is_of c.args._task) c.args.elements.now.items c.args.ring c.requires c.loop-i.i c.loop-i.key
    c.loop-i-test.true c.loop-i.invariant.key

pub returns-then-element-queue : goal.returns-then-element-queue
returns-then-element-queue g c =
    seek-hit Task (is_of c.args._task) (is_in c.args.queue) c.args.elements.now.items c.args.ring c.requires c.loop-i.i
    c.loop-i.key c.get-element.result c.loop-i-test.true c.loop-i.invariant.key c.get-element.ensures.element
    c.loop-i.invariant.rest (in_queue c.args.queue c.get-element.result c.if-element-queue.true)

pub loop-i-preserved : goal.loop-i-preserved
loop-i-preserved g c = record {
  key =
      place-next Task (is_of c.args._task) c.args.elements.now.items c.args.ring c.requires c.loop-i.i c.loop-i.key
      c.get-element.result c.loop-i-test.true c.loop-i.invariant.key c.get-element.ensures.element;
  rest =
      seek-miss Task (is_of c.args._task) (is_in c.args.queue) c.args.elements.now.items c.args.ring c.requires
      c.loop-i.i c.loop-i.key c.get-element.result c.loop-i-test.true c.loop-i.invariant.key
      c.get-element.ensures.element c.loop-i.invariant.rest
      (in_other c.args.queue c.get-element.result c.if-element-queue.false);
}
