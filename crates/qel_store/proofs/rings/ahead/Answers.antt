use Rattle.std.proofs.Common.{arith}
use Rattle.qel_store.specs.declared.elements.Side.TheVariants.{Queue}
use Rattle.qel_store.specs.Items.{is_in}
use Rattle.qel_store.proofs.WalkLemmas.{circle-first, place-found, place-next}
use Rattle.qel_store.proofs.rings.ahead.Goals as goal

pub loop-i-init : goal.loop-i-init
loop-i-init g c = circle-first Queue (is_in c.args._queue) c.args.elements.now.items c.args.ring c.requires.circle

pub get-key-requires : goal.get-key-requires
get-key-requires g c =
    place-found Queue (is_in c.args._queue) c.args.elements.now.items c.args.ring c.requires.circle c.loop-i.i
    c.loop-i.key (omega (arith, c.loop-i-test.true, c.requires.place)) c.loop-i.invariant

pub loop-i-preserved : goal.loop-i-preserved
loop-i-preserved g c =
    place-next Queue (is_in c.args._queue) c.args.elements.now.items c.args.ring c.requires.circle c.loop-i.i
    c.loop-i.key c.get-key.result (omega (arith, c.loop-i-test.true, c.requires.place)) c.loop-i.invariant
    c.get-key.ensures.element
