use Rattle.qel_store.specs.declared.elements.Side.TheVariants.{Queue}
use Rattle.qel_store.specs.Items.{is_in, members}
use Rattle.qel_store.proofs.WalkLemmas.{place-found, place-item, place-next, elems-further}
use Rattle.qel_store.proofs.rings.elems_in.Goals as goal

pub get-element-requires : goal.get-element-requires
get-element-requires g c =
    place-found Queue (is_in c.args._queue) c.args.elements.now.items c.args.ring c.requires c.loop-i.i c.loop-i.key
    c.loop-i-test.true c.loop-i.invariant.key

pub loop-i-preserved : goal.loop-i-preserved
loop-i-preserved g c =
    let ms = members (is_in c.args._queue) c.args.elements.now.items in
    record {
      key =
          place-next Queue (is_in c.args._queue) c.args.elements.now.items c.args.ring c.requires c.loop-i.i
          c.loop-i.key c.get-element.result c.loop-i-test.true c.loop-i.invariant.key c.get-element.ensures.element;
      so_far = elems-further ms c.loop-i.i c.loop-i.key c.get-element.result c.loop-i.elems c.push.new.self
          (place-item Queue (is_in c.args._queue) c.args.elements.now.items c.args.ring c.requires c.loop-i.i
          c.loop-i.key c.get-element.result c.loop-i-test.true c.loop-i.invariant.key c.get-element.ensures.element)
          c.loop-i.invariant.so_far c.in_ok-push.ensures.ok;
    }
