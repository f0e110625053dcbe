use Rattle.grs_workers.specs.Stands.{stand, IsOn, Agrees}
use Rattle.grs_workers.proofs.DeedLaws.{Goes}
use Rattle.grs_workers.proofs.rounds.events.Given as goal

abbrev pub invariant-loop-made : goal.invariant-loop-made
invariant-loop-made g l = record {
  goes : Goes (stand l.fn.worker) l.made (stand l.worker);
  on : IsOn l.bus (stand l.worker);
  agrees : Agrees (stand l.worker);
}
