use Rattle.grs_world.proofs.Common.{◌*◌, ◌∙◌, lap, sym}
use Rattle.grs_world.specs.Stopped.{live_count}
use Rattle.grs_world.proofs.code.Lapped.{lap-more}
use Rattle.grs_world.proofs.world.World.lap.Goals as goal

pub turns-preserved : goal.turns-preserved
turns-preserved c =
    let old = c.args.self.now in
    let kept = c.turns.invariant in
    let r =
    lap-more old.deck old.world c.turns.self c.take_turn.new.self c.turns.most c.turns.left c.in_ok-left.left
    c.in-Some.system c.turns.turns c.push.new.self (lap old.deck old.world) (2 * live_count old.world) kept.deck
    kept.turns kept.world kept.few c.turns-test.true (sym c.next_of.ensures ∙ c.in-Some.is) c.in_ok-left.ensures.world
    c.in_ok-left.ensures.left c.in_ok-push.ensures.ok in
    record { deck = r.0; turns = r.1; world = r.2; few = r.3 }
