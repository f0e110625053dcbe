use Rattle.std.proofs.Common.{◌<◌, ◌∙◌, length, arith}
use Rattle.grs_top.proofs.LeftOut.{led-on}
use Rattle.grs_top.proofs.left_out.happen.Goals as goal

pub loop-event-preserved : goal.loop-event-preserved
loop-event-preserved c =
    let within : c.loop-event.event-index < length c.args.events.now =
    omega (arith, c.loop-event-test.true, c.loop-event.auto.event-index-end) in
    record {
      deck = c.in_ok-idle.ensures.deck ∙ c.loop-event.invariant.deck;
      idle = c.in_ok-idle.ensures.idle;
      world =
          led-on c.args.world.now.deck c.loop-event.world.deck c.loop-event.world.world c.happen_one.new.world.world
          c.args.events.now c.loop-event.event-index _ within c.loop-event.invariant.deck c.in_ok-idle.ensures.world
          ∙ c.loop-event.invariant.world;
    }
