use Rattle.std.proofs.Common.{refl}
use Rattle.grs_deck.proofs.Last.{changed}
use Rattle.grs_deck.proofs.grow.push_command.Goals as goal

pub returns-in_ok-push-in-Some : goal.returns-in_ok-push-in-Some
returns-in_ok-push-in-Some c =
    changed _ c.args.systems.now c.pop.new.self c.in-Some.s _ c.push-in-Some.result c.push-in-Some.new.self
    c.in-Some.ensures.last (rw (c.in_ok-push-in-Some.ensures.ok) refl) c.push-in-Some.ensures.ok
