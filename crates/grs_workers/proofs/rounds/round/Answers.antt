use Rattle.std.proofs.Common.{get_or, arith}
use Rattle.grs_workers.proofs.RoundLaws.{worked-grew}
use Rattle.grs_workers.proofs.rounds.round.Goals as goal

pub returns-clause-grew : goal.returns-clause-grew
returns-clause-grew g c = λ i d inside.
    worked-grew c.args.bus.now (get_or c.args.workers.now i d) (get_or c.all_work.new.workers i d)
    (c.all_work.ensures i d inside) (c.in_ok-all.ensures.ok i d (omega arith))
