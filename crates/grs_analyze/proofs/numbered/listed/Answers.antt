use Rattle.std.proofs.Common.{sym}
use Rattle.grs_analyze.proofs.NumberLemmas.{list-next}
use Rattle.grs_analyze.proofs.numbered.listed.Goals as goal

pub loop-place-preserved : goal.loop-place-preserved
loop-place-preserved c =
    list-next c.args.tasks.now.keys c.loop-place.list c.push.new.self c.args.tasks.now.keys c.loop-place.place
    c.in-Some.task.now c.loop-place.invariant (sym c.in-Some.ensures.key) c.in_ok-push-in-Some.ensures.ok
