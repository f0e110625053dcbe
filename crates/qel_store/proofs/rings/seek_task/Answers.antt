use Rattle.std.proofs.Common.{sym, ◌∙◌, refl}
use Rattle.qel_store.specs.declared.elements.Side.TheVariants.{Queue}
use Rattle.qel_store.specs.Items.{is_in, is_of, is_in}
use Rattle.qel_store.proofs.WalkLemmas.{circle-first, place-found, place-next, seek-hit, seek-miss}
use Rattle.qel_store.proofs.rings.seek_task.Goals as goal

pub loop-i-init : goal.loop-i-init
loop-i-init g c = record {
  key = circle-first Queue (is_in c.args._queue) c.args.elements.now.items c.args.ring c.requires;
  rest = refl;
}

pub get-element-requires : goal.get-element-requires
get-element-requires g c =
    place-found Queue (is_in c.args._queue) c.args.elements.now.items c.args.ring c.requires c.loop-i.i c.loop-i.key
    c.loop-i-test.true c.loop-i.invariant.key

pub returns-then-is_same_task : goal.returns-then-is_same_task
returns-then-is_same_task g c =
    seek-hit Queue (is_in c.args._queue) (is_of c.args.task) c.args.elements.now.items c.args.ring c.requires c.loop-i.i
    c.loop-i.key c.get-element.result c.loop-i-test.true c.loop-i.invariant.key c.get-element.ensures.element
    c.loop-i.invariant.rest (sym c.is_same_task.ensures ∙ c.if-is_same_task.true)

pub loop-i-preserved : goal.loop-i-preserved
loop-i-preserved g c = record {
  key =
      place-next Queue (is_in c.args._queue) c.args.elements.now.items c.args.ring c.requires c.loop-i.i c.loop-i.key
      c.get-element.result c.loop-i-test.true c.loop-i.invariant.key c.get-element.ensures.element;
  rest =
      seek-miss Queue (is_in c.args._queue) (is_of c.args.task) c.args.elements.now.items c.args.ring c.requires
      c.loop-i.i c.loop-i.key c.get-element.result c.loop-i-test.true c.loop-i.invariant.key
      c.get-element.ensures.element c.loop-i.invariant.rest (sym c.is_same_task.ensures ∙ c.if-is_same_task.false);
}
