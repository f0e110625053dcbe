use Rattle.grs_workers.specs.Rounds.{Grew}
use Rattle.grs_workers.specs.Stands.{stand, IsOn, Agrees}
use Rattle.grs_workers.proofs.stretch.events_in_stretch.Given as goal

abbrev pub invariant-loop : goal.invariant-loop
invariant-loop g l = record {
  grew : Grew (stand l.fn.worker) (stand l.worker);
  on : IsOn l.bus (stand l.worker);
  agrees : Agrees (stand l.worker);
}
