use Rattle.std.proofs.Common.{refl}
use Rattle.grs_deck.proofs.Last.{changed}
use Rattle.grs_deck.proofs.grow.push_task.Goals as goal

pub returns-in_ok-push-in-Some : goal.returns-in_ok-push-in-Some
returns-in_ok-push-in-Some c =
    changed _ c.args.jobs.now c.pop.new.self c.in-Some.j _ c.push-in-Some.result c.push-in-Some.new.self
    c.in-Some.ensures.last (rw (c.in_ok-push-in-Some.ensures.ok, c.new.ensures) refl) c.push-in-Some.ensures.ok
