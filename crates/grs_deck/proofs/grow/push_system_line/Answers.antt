use Rattle.std.proofs.Common.{refl}
use Rattle.grs_deck.proofs.Last.{changed}
use Rattle.grs_deck.proofs.grow.push_system_line.Goals as goal

pub returns-in_ok-push_job_line-in-Some : goal.returns-in_ok-push_job_line-in-Some
returns-in_ok-push_job_line-in-Some c =
    changed _ c.args.systems.now c.pop.new.self c.in-Some.s _ c.push.result c.push.new.self c.in-Some.ensures.last
    (rw (c.in_ok-push_job_line-in-Some.ensures) refl) c.push.ensures.ok
